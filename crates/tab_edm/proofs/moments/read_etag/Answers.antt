use Rattle.std.proofs.Common.{◌≡◌, ◌++◌, sym, ap, ◌∙◌, List, ℕ}
use Rattle.std.specs.Prelude.{codes}
use Rattle.tab_edm.specs.Moments.{moment_with}
use Rattle.tab_edm.proofs.MomentLaws.{front, end, etag_parts, etag_rest, etag_length, no_etag, etag_read}
use Rattle.tab_edm.proofs.moments.read_etag.Goals as goal

pub returns-in_err-strip_prefix : goal.returns-in_err-strip_prefix
returns-in_err-strip_prefix c =
    rw c.from_residual.ensures (no_etag c.args.text.now (λ t bound is. c.in_err-strip_prefix.ensures.cases (moment_with (codes "%3A") t ++ end) (is ∙ etag_parts t)))

pub returns-in_err-moment : goal.returns-in_err-moment
returns-in_err-moment c =
    let cut = c.in_ok-strip_prefix.ensures.cases in
    let opened : c.args.text.now ≡ front ++ c.in_ok-strip_prefix.field-0.now = cut.1.1 ∙ ap (λ (rest : List ℕ). front ++ rest) (sym cut.2) in
    rw c.from_residual-in_err-moment.ensures (no_etag c.args.text.now (λ t bound is. c.in_err-moment.ensures.cases (moment_with (codes "%3A") t) (etag_rest c.args.text.now c.in_ok-strip_prefix.field-0.now t opened is)))

pub returns-then-moment-ne32 : goal.returns-then-moment-ne32
returns-then-moment-ne32 c =
    let cut = c.in_ok-strip_prefix.ensures.cases in
    let opened : c.args.text.now ≡ front ++ c.in_ok-strip_prefix.field-0.now = cut.1.1 ∙ ap (λ (rest : List ℕ). front ++ rest) (sym cut.2) in
    let last = c.in_ok-moment.ensures.cases in
    let closed : c.in_ok-strip_prefix.field-0.now ≡ c.in_ok-moment.moment.now ++ end = last.1.1 ∙ ap (λ (moment : List ℕ). moment ++ end) (sym last.2) in
    no_etag c.args.text.now (λ t bound is. c.if-moment-ne32.true (etag_length c.args.text.now c.in_ok-strip_prefix.field-0.now c.in_ok-moment.moment.now t opened closed is))

pub returns : goal.returns
returns c =
    let cut = c.in_ok-strip_prefix.ensures.cases in
    let opened : c.args.text.now ≡ front ++ c.in_ok-strip_prefix.field-0.now = cut.1.1 ∙ ap (λ (rest : List ℕ). front ++ rest) (sym cut.2) in
    let last = c.in_ok-moment.ensures.cases in
    let closed : c.in_ok-strip_prefix.field-0.now ≡ c.in_ok-moment.moment.now ++ end = last.1.1 ∙ ap (λ (moment : List ℕ). moment ++ end) (sym last.2) in
    etag_read c.args.text.now c.in_ok-strip_prefix.field-0.now c.in_ok-moment.moment.now c.read_tick.result opened closed c.if-moment-ne32.false (rw c.as_bytes.ensures.value at c.read_tick.ensures)
