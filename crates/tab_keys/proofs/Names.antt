-- Names without their case: std's lower case of ASCII letters is that of the definitions.
use Rattle.std.proofs.Common.{◌≡◌, ℕ, List, map, Bool, IsTrue, ◌↔◌, Decides, arith, ap, sym, ◌∙◌}
use Rattle.std.specs.Char.{to_ascii_lowercase}
use Rattle.std.specs.Str.{bytes_eq}
use Rattle.std.proofs.lemmas.Bool.Decides.{nat_tests, same_from_decides, Decides-at}
use Rattle.std.proofs.lemmas.Slice.Eq.{bytes_eq-Decides}
use Rattle.std.specs.Cmp.Lexicographic.{texts_ties}
use Rattle.std.specs.Ordering.{is_eq}
use Rattle.tab_keys.specs.Order.{name_cmp}
use Rattle.tab_keys.specs.TableNames.{folded, fold_byte}

fold_byte_is : (b : ℕ) → to_ascii_lowercase b ≡ fold_byte b
fold_byte_is b = grind (arith, nat_tests)

pub folded_is : (name : List ℕ) → map to_ascii_lowercase name ≡ folded name
unfolding folded
folded_is name = λ i. map (λ b. fold_byte_is b i) name

-- a test against the lower case of a name, as a test against the name folded
pub is_folded : (name word : List ℕ) (r : Bool) → IsTrue r ↔ (map to_ascii_lowercase name ≡ word) → r ≡ bytes_eq (folded name) word
is_folded name word r h =
    let same : Decides r (folded name ≡ word) = (λ e. sym (folded_is name) ∙ h.0 e, λ e. h.1 (folded_is name ∙ e)) in
    same_from_decides r (bytes_eq (folded name) word) same (bytes_eq-Decides (folded name) word)

pub is_same_folded : (a b : List ℕ) (r : Bool) → IsTrue r ↔ (map to_ascii_lowercase a ≡ map to_ascii_lowercase b) → r ≡ is_eq (name_cmp a b)
unfolding name_cmp
is_same_folded a b r h =
    is_folded a (map to_ascii_lowercase b) r h ∙ ap (bytes_eq (folded a)) (folded_is b) ∙ texts_ties (folded a) (folded b)

-- two names are not told apart where they are one without their case
pub name_cmp_Decides : (a b : List ℕ) → Decides (is_eq (name_cmp a b)) (folded a ≡ folded b)
unfolding name_cmp
name_cmp_Decides a b = Decides-at (is_eq (name_cmp a b)) (bytes_eq (folded a) (folded b)) (sym (texts_ties (folded a) (folded b))) (bytes_eq-Decides (folded a) (folded b))
