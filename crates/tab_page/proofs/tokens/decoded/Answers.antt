use Rattle.std.proofs.Common.{◌≡◌, ℕ, List, None, ap, sym, subst}
use Rattle.std.specs.Result.{result_ok}
use Rattle.base64.specs.declared.decode.DecodeError.{DecodeError}
use Rattle.base64.specs.declared.decode.DecodeAllocError.{DecodeAllocError}
use Rattle.base64.specs.declared.decode.DecodeAllocError.TheVariants.{DecodeError as Failed}
use Rattle.base64.specs.Engines.{url_safe_no_pad}
use Rattle.base64.specs.GeneralPurpose.{decoded_of, IsDecodeFailure}
use Rattle.tab_page.proofs.tokens.decoded.Goals as goal

pub returns-in-Ok : goal.returns-in-Ok
unfolding decoded_of
returns-in-Ok c = sym (ap result_ok c.in-Ok.ensures.ok)

not_decoded : (code : List ℕ) (why : DecodeAllocError) (d : DecodeError) → why ≡ Failed d → IsDecodeFailure url_safe_no_pad code why → None ≡ decoded_of url_safe_no_pad code
unfolding decoded_of
not_decoded code why d is failed = sym (ap result_ok (subst (IsDecodeFailure url_safe_no_pad code) is failed))

pub returns-in-Err-DecodeError : goal.returns-in-Err-DecodeError
returns-in-Err-DecodeError c = not_decoded c.args.code.now c.in-Err-DecodeError.field-0 c.in-Err-DecodeError.field-0-0 c.in-Err-DecodeError.field-0-is c.in-Err-DecodeError.ensures.err
