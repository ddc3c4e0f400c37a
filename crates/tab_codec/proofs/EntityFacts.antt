-- What properties are together that were read one after another.
use Rattle.std.proofs.Common.{◌≡◌, ◌≢◌, ℕ, ◌+◌, ◌*◌, ◌≤◌, Bool, true, false, cond, ltb, ◌&&◌, List, [], ◌∷◌, length, Option, Some, None, Result, Ok, refl, sym, ap, subst, arith}
use Rattle.std.specs.Prelude.{IsTrue, IsFalse, not, nat_le, All, AllPairs, sum_by}
use Rattle.std.specs.List.{AllByRecursion}
use Rattle.std.specs.Ordering.{is_lt, nat_cmp}
use Rattle.std.specs.declared.cmp.Ordering.{Ordering}
use Rattle.std.specs.declared.cmp.Ordering.TheVariants.{Less, Equal, Greater}
use Rattle.std.specs.Cmp.Lexicographic.{slice_cmp}
use Rattle.std.proofs.lemmas.Bool.{le-ltb}
use Rattle.std.proofs.lemmas.Bool.Decides.{nat_tests}
use Rattle.std.proofs.lemmas.Cmp.{nat_list_cmp_total}
use Rattle.std.proofs.lemmas.List.Elements.{All-from_recursion}
use Rattle.std.proofs.lemmas.List.Kept.{AllPairs-cons}
use Rattle.std.proofs.lemmas.List.Sums.{sum_by-cons}
use Rattle.tab_edm.specs.Texts.{unit_count, char_count}
use Rattle.tab_edm.specs.Values.{is_valid_name, is_reserved, is_small, value_size, property_size, IsInTime}
use Rattle.tab_edm.specs.Entities.{EntityView, IsRising, name_lt, property_refusal, first_refusal, entity_size, entity_refusal, made}
use Rattle.tab_edm.specs.declared.values.Value.{Value}
use Rattle.tab_edm.specs.declared.values.Value.TheVariants.{Text, Flag, Int32, Int64, Moment, Guid, Bytes}
use Rattle.tab_edm.specs.declared.values.Property.{Property}
use Rattle.tab_edm.specs.declared.TheConstants.{GREATEST}
use Rattle.tab_edm.specs.declared.entities.EdmRefused.{EdmRefused}
use Rattle.std.specs.Int.{w16}
use Rattle.tab_codec.specs.Frames.{AreBytes}
use Rattle.tab_codec.specs.Reading.{Counted, allowing, number_at, name_rises, property_at, count_on, items_at, entity_at}
use Rattle.tab_codec.proofs.FieldLaws.{FitsAll, items_field, allowing_field, field16}
use Rattle.tab_codec.proofs.KeyLaws.{both_true}
use Rattle.tab_codec.proofs.EntityLaws.{IsNext, IsTyped, property_field}

pub all_map : {A : Type 0} (P Q : A → Type 0) (xs : List A) → ((x : A) → P x → Q x) → AllByRecursion P xs → AllByRecursion Q xs
all_map P Q [] f h = tt
all_map P Q (x ∷ xs) f h = (f x h.0, all_map P Q xs f h.1)

pub less_is : (o : Ordering) → is_lt o ≡ true → o ≡ Less
less_is Less e = refl
less_is Equal e = absurd cc
less_is Greater e = absurd cc

lt_trans : (a b c : List ℕ) → is_lt (slice_cmp nat_cmp a b) ≡ true → is_lt (slice_cmp nat_cmp b c) ≡ true → is_lt (slice_cmp nat_cmp a c) ≡ true
lt_trans a b c h k = ap is_lt (nat_list_cmp_total.trans a b c (less_is _ h) (less_is _ k))

above : (counted : Counted) (p : Property) (ps : List Property) → counted.name ≡ Some p.name → FitsAll count_on IsNext counted ps → AllByRecursion (λ q. IsTrue (name_lt p q)) ps
unfolding count_on
above counted p [] e h = tt
above counted p (q ∷ qs) e h =
    let here : is_lt (slice_cmp nat_cmp p.name q.name) ≡ true = subst (λ (n : Option (List ℕ)). name_rises n q.name ≡ true) e h.0.rises in
    (here, all_map (λ r. IsTrue (name_lt q r)) (λ r. IsTrue (name_lt p r)) qs (λ r k. lt_trans p.name q.name r.name here k) (above (count_on counted q) q qs refl h.1))

rising : (counted : Counted) (ps : List Property) → FitsAll count_on IsNext counted ps → IsRising ps
unfolding count_on
rising counted [] h = λ i j d low lt. absurd (omega arith)
rising counted (p ∷ ps) h =
    AllPairs-cons (λ a b. IsTrue (name_lt a b)) p ps (All-from_recursion (λ q. IsTrue (name_lt p q)) ps (above (count_on counted p) p ps refl h.1)) (rising (count_on counted p) ps h.1)

pub each : (P : Property → Type 0) (counted : Counted) (ps : List Property) → ((c : Counted) (p : Property) → IsNext c p → P p) → FitsAll count_on IsNext counted ps → AllByRecursion P ps
each P counted [] f h = tt
each P counted (p ∷ ps) f h = (f counted p h.0, each P (count_on counted p) ps f h.1)

not_false : (b : Bool) → not b ≡ true → b ≡ false
not_false true e = absurd cc
not_false false e = refl

unreserved_one : (c : Counted) (p : Property) → IsNext c p → IsFalse (is_reserved p.name)
unreserved_one c p h = not_false _ (both_true (is_valid_name p.name && nat_le (char_count p.name) 255) (not (is_reserved p.name)) h.named).1

in_time_of : (v : Value) → IsTyped v → IsInTime v
in_time_of (Text t) h = tt
in_time_of (Flag b) h = tt
in_time_of (Int32 n) h = tt
in_time_of (Int64 n) h = tt
in_time_of (Moment tick) h = let e : nat_le tick GREATEST ≡ true = h.1 in grind (arith, nat_tests)
in_time_of (Guid bytes) h = tt
in_time_of (Bytes bytes) h = tt

cond_passes : {R : Type 0} (valid long small : Bool) (a b c : R) → valid ≡ true → long ≡ false → small ≡ true → cond valid (cond long (Some b) (cond small None (Some c))) (Some a) ≡ None
cond_passes valid long small a b c p q r = rw (p, q, r) refl

not_longer : (n : ℕ) → nat_le n 255 ≡ true → ltb 255 n ≡ false
not_longer n e = grind (arith, nat_tests)

allowed_one : (c : Counted) (p : Property) → IsNext c p → property_refusal p ≡ None
unfolding property_refusal
allowed_one c p h =
    let named = both_true (is_valid_name p.name && nat_le (char_count p.name) 255) (not (is_reserved p.name)) h.named in
    let name = both_true (is_valid_name p.name) (nat_le (char_count p.name) 255) named.0 in
    let small = (both_true (is_small p.value) _ h.value.within).0 in
    cond_passes (is_valid_name p.name) (ltb 255 (char_count p.name)) (is_small p.value) _ _ _ name.0 (not_longer (char_count p.name) name.1) small

no_refusal : (counted : Counted) (ps : List Property) → FitsAll count_on IsNext counted ps → first_refusal ps ≡ None
unfolding first_refusal
no_refusal counted [] h = refl
no_refusal counted (p ∷ ps) h = rw (allowed_one counted p h.0) (no_refusal (count_on counted p) ps h.1)

le_from : (a b : ℕ) → nat_le a b ≡ true → a ≤ b
le_from a b e = grind (arith, nat_tests)

grown_within : (counted : Counted) (p : Property) → IsNext counted p → (count_on counted p).size ≤ 1_048_576
unfolding count_on property_size
grown_within counted p h =
    let w = le_from (counted.size + (8 + 2 * unit_count p.name) + value_size p.value) 1_048_576 (both_true (is_small p.value) _ h.value.within).1 in
    omega arith

sizes_within : (counted : Counted) (ps : List Property) → counted.size ≤ 1_048_576 → FitsAll count_on IsNext counted ps → counted.size + sum_by property_size ps ≤ 1_048_576
unfolding count_on
sizes_within counted [] le h = omega arith
sizes_within counted (p ∷ ps) le h =
    let w = sizes_within (count_on counted p) ps (grown_within counted p h.0) h.1 in
    omega (arith, sum_by-cons property_size p ps)

-- what the properties of an entity meet
pub record MakeEntity (pk_units rk_units : ℕ) (ps : List Property) : Type 0 where
  pub rising : IsRising ps
  pub unreserved : All (λ p. IsFalse (is_reserved p.name)) ps
  pub in_time : All (λ p. IsInTime p.value) ps
  pub made : made pk_units rk_units ps ≡ Ok (record { properties = ps; pk_units = pk_units; rk_units = rk_units })
  pub allowed : entity_refusal pk_units rk_units ps ≡ None

no_entity_refusal : (pk_units rk_units : ℕ) (ps : List Property) → first_refusal ps ≡ None → length ps ≤ 252 → entity_size pk_units rk_units ps ≤ 1_048_576 → entity_refusal pk_units rk_units ps ≡ None
unfolding entity_refusal
no_entity_refusal pk_units rk_units ps none few small =
    rw (none, le-ltb 252 (length ps) few, le-ltb 1_048_576 (entity_size pk_units rk_units ps) small) refl

pub make_entity : (pk_units rk_units : ℕ) (ps : List Property) → pk_units ≤ 1024 → rk_units ≤ 1024 → length ps ≤ 252
    → FitsAll count_on IsNext (record { name = None; size = 4 + 2 * (pk_units + rk_units) }) ps → MakeEntity pk_units rk_units ps
unfolding made entity_size
make_entity pk_units rk_units ps pk rk few h =
    let counted : Counted = record { name = None; size = 4 + 2 * (pk_units + rk_units) } in
    let none = no_entity_refusal pk_units rk_units ps (no_refusal counted ps h) few (sizes_within counted ps (omega arith) h) in
    record {
      rising = rising counted ps h;
      unreserved = All-from_recursion (λ p. IsFalse (is_reserved p.name)) ps (each (λ p. IsFalse (is_reserved p.name)) counted ps unreserved_one h);
      in_time = All-from_recursion (λ p. IsInTime p.value) ps (each (λ p. IsInTime p.value) counted ps (λ c p n. in_time_of p.value n.value.typed) h);
      made = rw none refl;
      allowed = none;
    }

abbrev pub ok : EntityView → Result EntityView EdmRefused
ok x = Ok x

-- no name comes after itself
same_not_less : (a b : List ℕ) → a ≡ b → is_lt (slice_cmp nat_cmp a b) ≡ true → ⊥
same_not_less a b e h =
    let less : slice_cmp nat_cmp a a ≡ Less = less_is _ (subst (λ (c : List ℕ). is_lt (slice_cmp nat_cmp a c) ≡ true) (sym e) h) in
    let flipped = nat_list_cmp_total.antisymm a a in
    absurd cc

pub names_differ : (ps : List Property) → IsRising ps → AllPairs (λ a b. a.name ≢ b.name) ps
names_differ ps rises = λ i j d low lt. λ e. same_not_less _ _ e (rises i j d low lt)

-- the count of an entity's properties, and the properties, as they are read
pub entity_parts : (pk_units rk_units : ℕ) (bytes : List ℕ) (count : ℕ) (rest : List ℕ) (ps : List Property) (after : List ℕ) → AreBytes bytes → pk_units ≤ 1024 → rk_units ≤ 1024
    → allowing (λ n. nat_le n 252) (number_at w16) bytes ≡ Ok (count, rest)
    → items_at property_at count_on (record { name = None; size = 4 + 2 * (pk_units + rk_units) }) count rest ≡ Ok (ps, after) → MakeEntity pk_units rk_units ps
entity_parts pk_units rk_units bytes count rest ps after fits pk rk e d =
    let n = (allowing_field (λ n. nat_le n 252) field16).takes bytes (count, rest) fits e in
    let few = le_from count 252 n.fits.1 in
    let t = (items_field count_on property_field (record { name = None; size = 4 + 2 * (pk_units + rk_units) }) count).takes rest (ps, after) n.rest d in
    make_entity pk_units rk_units ps pk rk (omega (arith, t.fits.0)) t.fits.1

pub made_is : (x y : EntityView) → ok x ≡ ok y → x ≡ y
made_is x y e = cc

pub entity_gives : (pk_units rk_units : ℕ) (bytes : List ℕ) (count : ℕ) (rest : List ℕ) (ps : List Property) (after : List ℕ) (entity : EntityView)
    → allowing (λ n. nat_le n 252) (number_at w16) bytes ≡ Ok (count, rest)
    → items_at property_at count_on (record { name = None; size = 4 + 2 * (pk_units + rk_units) }) count rest ≡ Ok (ps, after)
    → entity ≡ record { properties = ps; pk_units = pk_units; rk_units = rk_units } → entity_at pk_units rk_units bytes ≡ Ok (entity, after)
unfolding entity_at
entity_gives pk_units rk_units bytes count rest ps after entity e d same = rw (e, d, same) refl
