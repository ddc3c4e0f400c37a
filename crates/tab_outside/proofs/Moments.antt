-- How what pairs of images spell goes on from call to call.
use Rattle.std.proofs.Common.{ℕ, ◌≤◌, List, inl, inr, arith}
use Rattle.std.specs.Prelude.{◌⊎◌}
use Rattle.tab_outside.specs.Disks.{Watch, Rests, CountsNow, OnlyNow}
use Rattle.tab_outside.specs.Pairs.{Tells, Now, Since, Extends, AddsNone}

-- a fact that follows may take a fact's place
pub tells_weaker : {S : Type 0} (spells : S → List ℕ → List ℕ → Type 0) (P Q : S → Type 0) (c d : List ℕ) → ((value : S) → P value → Q value) → Tells spells P c d → Tells spells Q c d
tells_weaker spells P Q c d to tells = record { value = tells.value; spelled = tells.spelled; holds = to tells.value tells.holds }

now_tells : {S : Type 0} (spells : S → List ℕ → List ℕ → Type 0) (P Q : S → Type 0) (c d : List ℕ) (value : S) → P value → spells value c d ⊎ Tells spells Q c d → Tells spells (λ v. P v ⊎ Q v) c d
now_tells spells P Q c d value holds (inl spelled) = record { value = value; spelled = spelled; holds = inl holds }
now_tells spells P Q c d value holds (inr tells) = tells_weaker spells Q (λ v. P v ⊎ Q v) c d (λ v q. inr q) tells

-- what each pair since some moments spells, after one more call
pub since_goes_on : {D S : Type 0} (w : Watch D) (spells : S → List ℕ → List ℕ → Type 0) (P Q : S → Type 0) (ta tb : ℕ) (a b a_new b_new : D) → Extends w spells Q a b a_new b_new
    → ta ≤ w.moment a → tb ≤ w.moment b → Since w spells P ta tb a b → Since w spells (λ v. P v ⊎ Q v) ta tb a_new b_new
since_goes_on w spells P Q ta tb a b a_new b_new extends in_a in_b since c d c_left d_left =
    let was = extends.each ta tb in_a in_b c d c_left d_left in
    let tells = since was.c_before was.d_before was.c_was was.d_was in
    now_tells spells P Q c d tells.value tells.holds (was.as_before tells.value tells.spelled)

-- and what each pair of images now spells
pub now_goes_on : {D S : Type 0} (w : Watch D) (spells : S → List ℕ → List ℕ → Type 0) (P Q : S → Type 0) (a b a_new b_new : D) → CountsNow w → OnlyNow w → Extends w spells Q a b a_new b_new
    → Now w spells P a b → Now w spells (λ v. P v ⊎ Q v) a_new b_new
now_goes_on w spells P Q a b a_new b_new counts only extends now c d c_left d_left =
    let was = extends.each (w.moment a) (w.moment b) (omega arith) (omega arith) c d (counts a_new (w.moment a) c extends.later_a c_left) (counts b_new (w.moment b) d extends.later_b d_left) in
    let tells = now was.c_before was.d_before (only a was.c_before was.c_was) (only b was.d_before was.d_was) in
    now_tells spells P Q c d tells.value tells.holds (was.as_before tells.value tells.spelled)

-- since now there is what there is now
pub since_begins : {D S : Type 0} (w : Watch D) (spells : S → List ℕ → List ℕ → Type 0) (P : S → Type 0) (a b : D) → OnlyNow w → Now w spells P a b → Since w spells P (w.moment a) (w.moment b) a b
since_begins w spells P a b only now c d c_left d_left = now c d (only a c c_left) (only b d d_left)

pub since_weaker : {D S : Type 0} (w : Watch D) (spells : S → List ℕ → List ℕ → Type 0) (P Q : S → Type 0) (ta tb : ℕ) (a b : D) → ((value : S) → P value → Q value) → Since w spells P ta tb a b → Since w spells Q ta tb a b
since_weaker w spells P Q ta tb a b to since c d c_left d_left = tells_weaker spells P Q c d to (since c d c_left d_left)

pub now_weaker : {D S : Type 0} (w : Watch D) (spells : S → List ℕ → List ℕ → Type 0) (P Q : S → Type 0) (a b : D) → ((value : S) → P value → Q value) → Now w spells P a b → Now w spells Q a b
now_weaker w spells P Q a b to now c d c_left d_left = tells_weaker spells P Q c d to (now c d c_left d_left)

still_or_weaker : {S : Type 0} (spells : S → List ℕ → List ℕ → Type 0) (P Q : S → Type 0) (c d : List ℕ) (value : S) → ((v : S) → P v → Q v) → spells value c d ⊎ Tells spells P c d → spells value c d ⊎ Tells spells Q c d
still_or_weaker spells P Q c d value to (inl spelled) = inl spelled
still_or_weaker spells P Q c d value to (inr tells) = inr (tells_weaker spells P Q c d to tells)

pub extends_weaker : {D S : Type 0} (w : Watch D) (spells : S → List ℕ → List ℕ → Type 0) (P Q : S → Type 0) (a b a_new b_new : D) → ((value : S) → P value → Q value)
    → Extends w spells P a b a_new b_new → Extends w spells Q a b a_new b_new
extends_weaker w spells P Q a b a_new b_new to extends = record {
  later_a = extends.later_a;
  later_b = extends.later_b;
  each = λ ta tb in_a in_b c d c_left d_left.
      let was = extends.each ta tb in_a in_b c d c_left d_left in
      record {
        c_before = was.c_before;
        d_before = was.d_before;
        c_was = was.c_was;
        d_was = was.d_was;
        as_before = λ value spelled. still_or_weaker spells P Q c d value to (was.as_before value spelled);
      };
}

-- no image is added: nothing new is spelled, whatever P is
pub extends_none : {D S : Type 0} (w : Watch D) (spells : S → List ℕ → List ℕ → Type 0) (P : S → Type 0) (a b a_new b_new : D) → AddsNone w a a_new → AddsNone w b b_new → Extends w spells P a b a_new b_new
extends_none w spells P a b a_new b_new none_a none_b = record {
  later_a = none_a.later;
  later_b = none_b.later;
  each = λ ta tb in_a in_b c d c_left d_left. record {
    c_before = c;
    d_before = d;
    c_was = none_a.each ta in_a c c_left;
    d_was = none_b.each tb in_b d d_left;
    as_before = λ value spelled. inl spelled;
  };
}

then_tells : {S : Type 0} (spells : S → List ℕ → List ℕ → Type 0) (P Q : S → Type 0) (c d c_mid d_mid : List ℕ) (value : S) → ((v : S) → spells v c_mid d_mid → spells v c d ⊎ Tells spells Q c d)
    → spells value c_mid d_mid ⊎ Tells spells P c_mid d_mid → spells value c d ⊎ Tells spells (λ v. P v ⊎ Q v) c d
then_tells spells P Q c d c_mid d_mid value as_before (inl spelled) = still_or_weaker spells Q (λ v. P v ⊎ Q v) c d value (λ v q. inr q) (as_before value spelled)
then_tells spells P Q c d c_mid d_mid value as_before (inr tells) = inr (now_tells spells P Q c d tells.value tells.holds (as_before tells.value tells.spelled))

-- two calls one after another
pub extends_then : {D S : Type 0} (w : Watch D) (spells : S → List ℕ → List ℕ → Type 0) (P Q : S → Type 0) (a b a_mid b_mid a_new b_new : D) → Extends w spells P a b a_mid b_mid → Extends w spells Q a_mid b_mid a_new b_new
    → Extends w spells (λ v. P v ⊎ Q v) a b a_new b_new
extends_then w spells P Q a b a_mid b_mid a_new b_new first second = record {
  later_a = omega (arith, first.later_a, second.later_a);
  later_b = omega (arith, first.later_b, second.later_b);
  each = λ ta tb in_a in_b c d c_left d_left.
      let late = second.each ta tb (omega (arith, in_a, first.later_a)) (omega (arith, in_b, first.later_b)) c d c_left d_left in
      let early = first.each ta tb in_a in_b late.c_before late.d_before late.c_was late.d_was in
      record {
        c_before = early.c_before;
        d_before = early.d_before;
        c_was = early.c_was;
        d_was = early.d_was;
        as_before = λ value spelled. then_tells spells P Q c d late.c_before late.d_before value late.as_before (early.as_before value spelled);
      };
}

-- two calls that add none
pub none_then : {D : Type 0} (w : Watch D) (old mid new : D) → AddsNone w old mid → AddsNone w mid new → AddsNone w old new
none_then w old mid new first second = record {
  later = omega (arith, first.later, second.later);
  each = λ t earlier c left. first.each t earlier c (second.each t (omega (arith, earlier, first.later)) c left);
}

was_there : {D : Type 0} (w : Watch D) (old new : D) (t : ℕ) (c : List ℕ) → CountsNow w → Rests w old new → t ≤ w.moment old
    → w.left_since old t c ⊎ w.may_leave new c → w.left_since old t c
was_there w old new t c counts rests earlier (inl was) = was
was_there w old new t c counts rests earlier (inr now) = counts old t c earlier (rests.crash c now)

-- a call that writes nothing adds no image
pub rests_adds_none : {D : Type 0} (w : Watch D) (old new : D) → CountsNow w → Rests w old new → AddsNone w old new
rests_adds_none w old new counts rests = record {
  later = rests.time.later;
  each = λ t earlier c left. was_there w old new t c counts rests earlier (rests.time.nothing_else t c earlier left);
}
