-- The ETag that a reply names is read as its tick.
use Rattle.std.proofs.Common.{◌≡◌, ℕ, ◌+◌, ◌≤◌, List, ◌++◌, false, Some, refl, ap, codes, arith, bytes_eq}
use Rattle.std.proofs.lemmas.Slice.Eq.{bytes_eq-Decides}
use Rattle.std.proofs.lemmas.Str.{is_utf8-from_IsUtf8}
use Rattle.tab_json.proofs.MomentTexts.{etag_text}
use Rattle.tab_edm.specs.Moments.{moment_with, text_of_etag}
use Rattle.tab_edm.specs.declared.TheConstants.{GREATEST}
use Rattle.tab_edm.proofs.MomentLaws.{end, etag_parts, etag_inside, one_moment, written_spells}
use Rattle.tab_http.specs.declared.messages.Header.{Header}
use Rattle.tab_service.specs.Conditions.{tick_of_etag, tick_in, tick_condition, condition_for}
use Rattle.tab_service.specs.Targets.{text_of}
use Rattle.tab_service.specs.Laws.{IsReadAsTick}
use Rattle.tab_service.proofs.ConditionLemmas.{one_below}

-- ---- an ETag is of one tick

pub etag_of_one : (t u : ℕ) → t ≤ GREATEST → u ≤ GREATEST → text_of_etag t ≡ text_of_etag u → t ≡ u
etag_of_one t u low_t low_u is =
    let colon = codes "%3A" in
    let same = etag_inside (text_of_etag t) (moment_with colon t ++ end) (moment_with colon t) u (etag_parts t) refl is in
    one_moment colon (moment_with colon t) t u (written_spells colon t low_t) (rw same (written_spells colon u low_u))

pub tick_is_read : (tick : ℕ) → tick ≤ GREATEST → tick_of_etag (text_of_etag tick) ≡ Some tick
unfolding tick_of_etag
tick_is_read tick low =
    one_below (λ t. bytes_eq (text_of_etag t) (text_of_etag tick)) (GREATEST + 1) tick (omega (arith, low)) ((bytes_eq-Decides (text_of_etag tick) (text_of_etag tick)).1 refl)
    (λ k below same. etag_of_one k tick (omega (arith, below)) low ((bytes_eq-Decides (text_of_etag k) (text_of_etag tick)).0 same))

-- ---- and is a text

etag_is_text : (tick : ℕ) → text_of (text_of_etag tick) ≡ Some (text_of_etag tick)
unfolding text_of
etag_is_text tick = rw (is_utf8-from_IsUtf8 (text_of_etag tick) (etag_text tick)) refl

-- ---- conditions

no_star : (tick : ℕ) → bytes_eq (text_of_etag tick) (codes "*") ≡ false
no_star tick = ap (λ (text : List ℕ). bytes_eq text (codes "*")) (etag_parts tick)

pub version_is_read : (tick : ℕ) (headers : List Header) → tick ≤ GREATEST → IsReadAsTick tick headers
unfolding condition_for tick_in
version_is_read tick headers low = rw (no_star tick, etag_is_text tick) (ap tick_condition (tick_is_read tick low))
