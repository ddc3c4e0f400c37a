-- Names that annotate.
use Rattle.std.proofs.Common.{◌≡◌, ℕ, ◌-◌, List, ◌++◌, length, true, false, ◌==◌, Option, Some, None, Bor, MatchOption, codes, refl, sym, ap, ◌∙◌, arith, length-append}
use Rattle.std.proofs.lemmas.Bool.{false_from_ne_true}
use Rattle.std.proofs.lemmas.Bool.Decides.{Decides-eqb}
use Rattle.std.proofs.lemmas.Slice.Eq.{ends_is}
use Rattle.std.proofs.Math.Seq.{take-append_seam}
use Rattle.std.specs.List.{ends_with}
use Rattle.std.specs.Option.{option_copied}
use Rattle.std.specs.Str.Pattern.{FindsTextSuffix, StripsSuffix}
use Rattle.tab_json.specs.Bodies.{annotated_by}

abbrev end : List ℕ
end = codes "@odata.type"

pub annotates : (name front : List ℕ) → name ≡ front ++ end → Some front ≡ annotated_by name
unfolding annotated_by
annotates name front is =
    let ends : ends_with ◌==◌ name end ≡ true = (ends_is Decides-eqb name end (ends_with ◌==◌ name end) refl).1 front is in
    let long : length name - 11 ≡ length front = rw (is, length-append) (omega arith) in
    rw (ends, long, is, take-append_seam) refl

pub annotates_none : (name : List ℕ) → ((front : List ℕ) → name ≡ front ++ end → ⊥) → None ≡ annotated_by name
unfolding annotated_by
annotates_none name never =
    let test = (ends_is Decides-eqb name end (ends_with ◌==◌ name end) refl).0 in
    let no : ends_with ◌==◌ name end ≡ false = false_from_ne_true _ (λ ends. never _ (test ends)) in
    rw no refl

-- what `strip_suffix` leaves of a name
pub stripped : (name : List ℕ) (front : Option (Bor (List ℕ))) → MatchOption front (FindsTextSuffix end name None) (λ x. StripsSuffix (FindsTextSuffix end) name x.now) → option_copied front ≡ annotated_by name
stripped name None never = annotates_none name never
stripped name (Some front) cut = annotates name front.now (cut.1.1 ∙ ap (λ (x : List ℕ). x ++ end) (sym cut.2))
