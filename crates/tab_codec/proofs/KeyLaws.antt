-- Keys, bounds and spans as fields.
use Rattle.std.proofs.Common.{◌≡◌, ℕ, zero, suc, ◌*◌, ◌^◌, ◌<◌, ◌≤◌, Bool, true, false, cond, ltb, ◌&&◌, List, [], ◌∷◌, ◌++◌, length, Option, Some, None, Ok, refl, sym, ap, subst, arith, lit<, length-append}
use Rattle.std.specs.Prelude.{IsUtf8, nat_le}
use Rattle.std.specs.List.{flat_map}
use Rattle.std.specs.Int.{w64, to_be_bytes}
use Rattle.std.specs.Option.{is_none}
use Rattle.std.specs.Ordering.{is_lt, is_le, ordering_then, nat_cmp}
use Rattle.std.specs.declared.cmp.Ordering.{Ordering}
use Rattle.std.specs.declared.cmp.Ordering.TheVariants.{Less, Equal, Greater}
use Rattle.std.specs.Str.{is_utf8, chars}
use Rattle.std.specs.Char.{len_utf8}
use Rattle.std.specs.Char.Escape.{encode_utf16}
use Rattle.std.proofs.Math.Utf8.{encodes, encode}
use Rattle.std.proofs.lemmas.Bool.{ltb-false}
use Rattle.std.proofs.lemmas.Bool.Decides.{nat_tests}
use Rattle.std.proofs.lemmas.Str.{IsUtf8-from_is_utf8, is_utf8-from_IsUtf8, encodes-chars, length-encode}
use Rattle.tab_keys.specs.KeyTexts.{units_of, key_refusal, IsKeyText}
use Rattle.tab_keys.specs.Order.{text_cmp, key_cmp, bound_lt}
use Rattle.tab_keys.specs.Spans.{Interval}
use Rattle.tab_keys.specs.declared.keys.Key.{Key}
use Rattle.tab_keys.specs.declared.bounds.Bound.{Bound}
use Rattle.tab_keys.specs.declared.bounds.Bound.TheVariants.{At, End}
use Rattle.tab_codec.specs.Spelling.{sized, key_spelling, bound_spelling, span_spelling}
use Rattle.tab_keys.specs.Keys.{IsKey}
use Rattle.tab_codec.specs.Frames.{AreBytes, IsBound, IsSpan}
use Rattle.tab_codec.specs.Reading.{case_at, is_key_text, key_text_at, table_rises, partition_rises, key_rises, row_key_at, key_at, may_rise, bound_table_rises, bound_rises, partition_at, bound_of, bound_at, span_from, span_at}
use Rattle.tab_codec.proofs.FieldLaws.{Took, IsField, done, ok_is, bind_field, last_field, allowing_field, same_field, byte_field, field64, sized_field}

pub both_true : (a b : Bool) → (a && b) ≡ true → (a ≡ true) × (b ≡ true)
both_true true true e = (refl, refl)
both_true true false e = absurd cc
both_true false b e = absurd cc

pub none_is : {A : Type 0} (o : Option A) → is_none o ≡ true → o ≡ None
none_is None e = refl
none_is (Some x) e = absurd cc

-- ---- how long texts are

three_bytes_a_unit : (cs : List ℕ) → length (encodes cs) ≤ 3 * length (flat_map encode_utf16 cs)
three_bytes_a_unit [] = omega arith
three_bytes_a_unit (c ∷ cs) =
    let few : len_utf8 c ≤ 3 * length (encode_utf16 c) = grind (arith, nat_tests) in
    omega (arith, length-append (encode c) (encodes cs), length-encode c, length-append (encode_utf16 c) (flat_map encode_utf16 cs), three_bytes_a_unit cs)

-- no unit of UTF-16 takes more than three bytes in UTF-8
pub bytes_at_most : (text : List ℕ) → IsUtf8 text → length text ≤ 3 * length (flat_map encode_utf16 (chars text))
bytes_at_most text utf8 = omega (arith, ap length (encodes-chars text utf8), three_bytes_a_unit (chars text))

refused_long : (units : ℕ) (bad : Bool) → {R : Type 0} (long other : R) → cond (ltb 1024 units) (Some long) (cond bad (Some other) None) ≡ None → units ≤ 1024
refused_long units bad {R} long other e =
    let passed : (b : Bool) → cond b (Some long) (cond bad (Some other) None) ≡ None → b ≡ false = λ b h. elim b as (λ v. cond v (Some long) (cond bad (Some other) None) ≡ None → v ≡ false) [ true ↦ λ k. absurd cc | false ↦ λ k. refl ] h in
    ltb-false 1024 units (passed (ltb 1024 units) e)

pub few_units : (text : List ℕ) → IsKeyText text → length (units_of text) ≤ 1024
unfolding key_refusal
few_units text h = refused_long _ _ _ _ h.allowed

pub key_text_short : (text : List ℕ) → IsKeyText text → length text ≤ 3072
unfolding units_of
key_text_short text h = omega (arith, bytes_at_most text h.utf8, few_units text h)

-- ---- key texts

pub key_text_field : IsField key_text_at sized IsKeyText
key_text_field = same_field (allowing_field is_key_text sized_field)
    (λ t h. let b = both_true (is_utf8 t) (is_none (key_refusal t)) h.1 in
    (refl, record { utf8 = IsUtf8-from_is_utf8 t b.0; allowed = none_is (key_refusal t) b.1 }))
    (λ t h. (omega (arith, key_text_short t h), rw (is_utf8-from_IsUtf8 t h.utf8, h.allowed) refl))

-- ---- keys

-- a key that stands above the one before
pub record IsKeyAbove (before : Option Key) (k : Key) : Type 0 where
  pub key : IsKey k
  pub above : key_rises before k ≡ true

first_rises : (a b : Ordering) → is_lt (ordering_then a b) ≡ true → is_le a ≡ true
first_rises Less b e = refl
first_rises Equal b e = refl
first_rises Greater b e = absurd cc

both_rise : (a b c : Ordering) → is_lt (ordering_then a (ordering_then b c)) ≡ true → is_le (ordering_then a b) ≡ true
both_rise Less b c e = refl
both_rise Equal b c e = first_rises b c e
both_rise Greater b c e = absurd cc

le_is : (a b : ℕ) → is_le (nat_cmp a b) ≡ true → nat_le a b ≡ true
le_is a b e = grind (arith, nat_tests)

table_goes_on : (before : Option Key) (key : Key) → key_rises before key ≡ true → table_rises before key.table ≡ true
unfolding key_cmp
table_goes_on None key e = refl
table_goes_on (Some b) key e = le_is b.table key.table (first_rises (nat_cmp b.table key.table) _ e)

partition_goes_on : (before : Option Key) (key : Key) → key_rises before key ≡ true → partition_rises before key.table key.pk ≡ true
unfolding key_cmp
partition_goes_on None key e = refl
partition_goes_on (Some b) key e = both_rise (nat_cmp b.table key.table) (text_cmp b.pk key.pk) _ e

pub key_field : (before : Option Key) → IsField (key_at before) key_spelling (IsKeyAbove before)
unfolding key_at row_key_at key_spelling
key_field before = same_field
    (bind_field (λ (k : Key). k.table) (allowing_field (table_rises before) field64)
    (λ table _. bind_field (λ (k : Key). k.pk) (allowing_field (partition_rises before table) key_text_field)
    (λ pk _. last_field (λ rk. record { table = table; pk = pk; rk = rk }) (λ (k : Key). k.rk) (λ _ _. refl)
    (allowing_field (λ rk. key_rises before (record { table = table; pk = pk; rk = rk })) key_text_field))
    (λ pk k h. sym (ap (λ (key : Key). key.pk) h.1)))
    (λ table k h. sym (ap (λ (key : Key). key.table) h.1.1)))
    (λ k h. (refl, record { key = record { table = h.0.0; pk = h.1.0.0; rk = h.1.1.0.0 }; above = h.1.1.0.1 }))
    (λ k h. ((h.key.table, table_goes_on before k h.above), ((h.key.pk, partition_goes_on before k h.above), ((h.key.rk, h.above), refl))))

-- ---- bounds and spans

pub record IsBoundAbove (before : Option Bound) (b : Bound) : Type 0 where
  pub bound : IsBound b
  pub above : bound_rises before b ≡ true

table_of : Bound → ℕ
table_of (At table pk) = table
table_of End = 0

pk_of : Bound → List ℕ
pk_of (At table pk) = pk
pk_of End = []

-- the byte that says which bound it is, and what stands behind it
abbrev which_of : Bound → ℕ
which_of (At table pk) = 0
which_of End = 1

abbrev behind : Bound → List ℕ
behind (At table pk) = to_be_bytes w64 table ++ sized pk
behind End = []

abbrev IsBehind : Option Bound → ℕ → Bound → Type 0
IsBehind before zero (At table pk) = IsBound (At table pk) × (bound_rises before (At table pk) ≡ true)
IsBehind before zero End = ⊥
IsBehind before (suc n) (At table pk) = ⊥
IsBehind before (suc n) End = n ≡ 0

pub bound_table_goes_on : (before : Option Bound) (table : ℕ) (pk : List ℕ) → bound_rises before (At table pk) ≡ true → bound_table_rises before table ≡ true
unfolding key_cmp
bound_table_goes_on None table pk e = refl
bound_table_goes_on (Some (At t p)) table pk e = le_is t table (first_rises (nat_cmp t table) _ e)
bound_table_goes_on (Some End) table pk e = absurd cc

start_field : (before : Option Bound) → IsField (bound_of before 0) behind (IsBehind before 0)
unfolding bound_of partition_at table_of pk_of
start_field before = same_field
    (bind_field table_of (allowing_field (bound_table_rises before) field64)
    (λ table _. last_field (λ pk. At table pk) pk_of (λ _ _. refl) (allowing_field (λ pk. bound_rises before (At table pk)) key_text_field))
    (λ table b h. sym (ap table_of h.1)))
    (λ b h. subst (λ (c : Bound). (to_be_bytes w64 (table_of b) ++ sized (pk_of b) ≡ behind c) × IsBehind before 0 c) h.1.1 (refl, ((h.0.0, h.1.0.0), h.1.0.1)))
    (λ b. elim b as (λ c. IsBehind before 0 c → ((table_of c < 2 ^ 64) × (bound_table_rises before (table_of c) ≡ true)) × ((IsKeyText (pk_of c) × (bound_rises before (At (table_of c) (pk_of c)) ≡ true)) × (At (table_of c) (pk_of c) ≡ c))) [
      | At table pk ↦ λ h. ((h.0.0, bound_table_goes_on before table pk h.1), ((h.0.1, h.1), refl))
      | End ↦ λ h. absurd h
    ])

at_most_one : (n : ℕ) → (nat_le 0 (suc n) && nat_le (suc n) 1) ≡ true → n ≡ 0
at_most_one n e = grind (arith, nat_tests)

end_again : (before : Option Bound) (n : ℕ) (b : Bound) (rest : List ℕ) → IsBehind before (suc n) b → bound_of before (suc n) (behind b ++ rest) ≡ Ok (b, rest)
unfolding bound_of
end_again before n (At table pk) rest h = absurd h
end_again before n End rest h = refl

end_field : (before : Option Bound) (n : ℕ) → n ≡ 0 → IsField (bound_of before (suc n)) behind (IsBehind before (suc n))
unfolding bound_of
end_field before n is = record {
  takes = λ bytes x fits e.
      let made : Took behind (IsBehind before (suc n)) bytes (End, bytes) = record { parts = refl; rest = fits; fits = is } in
      subst (λ (y : Bound × List ℕ). Took behind (IsBehind before (suc n)) bytes y) (ok_is (End, bytes) x (done End bytes) refl e) made;
  again = end_again before n;
}

abbrev IsCase : ℕ → ℕ → ℕ → Type 0
IsCase least most which = (which < 2 ^ 8) × ((nat_le least which && nat_le which most) ≡ true)

pub case_field : (least most : ℕ) → IsField (case_at least most) (λ which. which ∷ []) (λ which. (which < 2 ^ 8) × ((nat_le least which && nat_le which most) ≡ true))
case_field least most = allowing_field (λ which. nat_le least which && nat_le which most) byte_field

behind_field : (before : Option Bound) (which : ℕ) → IsCase 0 1 which × (may_rise before ≡ true) → IsField (bound_of before which) behind (IsBehind before which)
behind_field before zero h = start_field before
behind_field before (suc n) h = end_field before n (at_most_one n h.0.1)

which_is : (before : Option Bound) (which : ℕ) (b : Bound) → IsBehind before which b → which_of b ≡ which
which_is before zero (At table pk) h = refl
which_is before zero End h = absurd h
which_is before (suc n) (At table pk) h = absurd h
which_is before (suc n) End h = ap suc (sym h)

end_rises : (before : Option Bound) → may_rise before ≡ true → bound_rises before End ≡ true
end_rises None e = refl
end_rises (Some (At t p)) e = refl
end_rises (Some End) e = absurd cc

goes_on : (before : Option Bound) (b : Bound) → bound_rises before b ≡ true → may_rise before ≡ true
goes_on None b e = refl
goes_on (Some (At t p)) b e = refl
goes_on (Some End) b e = absurd cc

from_behind : (before : Option Bound) (b : Bound) → (IsCase 0 1 (which_of b) × (may_rise before ≡ true)) × IsBehind before (which_of b) b → (which_of b ∷ behind b ≡ bound_spelling b) × IsBoundAbove before b
unfolding bound_spelling
from_behind before (At table pk) h = (refl, record { bound = h.1.0; above = h.1.1 })
from_behind before End h = (refl, record { bound = tt; above = end_rises before h.0.1 })

to_behind : (before : Option Bound) (b : Bound) → IsBoundAbove before b → (IsCase 0 1 (which_of b) × (may_rise before ≡ true)) × IsBehind before (which_of b) b
to_behind before (At table pk) h = (((lit< tt, refl), goes_on before (At table pk) h.above), (h.bound, h.above))
to_behind before End h = (((lit< tt, refl), goes_on before End h.above), refl)

pub bound_field : (before : Option Bound) → IsField (bound_at before) bound_spelling (IsBoundAbove before)
unfolding bound_at
bound_field before = same_field
    (bind_field which_of (allowing_field (λ _. may_rise before) (case_field 0 1)) (behind_field before) (which_is before))
    (from_behind before) (to_behind before)

-- the span from this bound on
pub record IsSpanFrom (lo : Bound) (span : Interval) : Type 0 where
  pub hi : IsBoundAbove (Some lo) span.hi
  pub from : span.lo ≡ lo

pub span_from_field : (lo : Bound) → IsField (span_from lo) (λ span. bound_spelling span.hi) (IsSpanFrom lo)
unfolding span_from
span_from_field lo = same_field
    (last_field (λ hi. record { lo = lo; hi = hi }) (λ (s : Interval). s.hi) (λ _ _. refl) (bound_field (Some lo)))
    (λ s h. (refl, record { hi = h.0; from = sym (ap (λ (t : Interval). t.lo) h.1) }))
    (λ s h. (h.hi, ap (λ (b : Bound). record { lo = b; hi = s.hi }) (sym h.from)))

pub span_field : IsField span_at span_spelling IsSpan
unfolding span_at span_spelling
span_field = same_field
    (bind_field (λ (s : Interval). s.lo) (bound_field None) (λ lo _. span_from_field lo) (λ lo s h. h.from))
    (λ s h. (refl, record { lo = h.0.bound; hi = h.1.hi.bound; ordered = h.1.hi.above }))
    (λ s h. (record { bound = h.lo; above = refl }, record { hi = record { bound = h.hi; above = h.ordered }; from = refl }))

-- what is read as the high bound of a span stands above the low one
pub high_above : (lo hi : Bound) (bytes rest : List ℕ) → AreBytes bytes → bound_at (Some lo) bytes ≡ Ok (hi, rest) → bound_lt lo hi ≡ true
high_above lo hi bytes rest fits e = ((bound_field (Some lo)).takes bytes (hi, rest) fits e).fits.above
