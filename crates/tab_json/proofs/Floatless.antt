-- No value that this crate writes has a float in it, so each has a text.
use Rattle.std.proofs.Common.{◌≡◌, ℕ, List, [], ◌∷◌, ◌++◌, Bool, true, false, ◌||◌, refl, ap, ◌∙◌, map, if◌then◌else◌, codes}
use Rattle.std.specs.declared.cmp.Ordering.TheVariants.{Less, Equal, Greater}
use Rattle.std.specs.Ordering.{nat_cmp, match_ordering}
use Rattle.std.specs.Cmp.Lexicographic.{slice_cmp}
use Rattle.serde_json.specs.Data.{Data, Members, no_members, member, string, put}
use Rattle.serde_json.specs.View.{items_of}
use Rattle.serde_json.specs.Written.{has_float, members_have_float, items_have_float}
use Rattle.tab_json.specs.Objects.{Member, with_members, object_of}
use Rattle.tab_json.specs.Entities.{metadata, metadata_address}
use Rattle.tab_json.specs.Faults.{message_data, fault_data}
use Rattle.tab_json.specs.Tables.{table_name, table_data, tables_data}
use Rattle.tab_json.specs.declared.entities.JsonForm.{JsonForm}

or_neither : (x y : Bool) → x ≡ false → y ≡ false → (x || y) ≡ false
or_neither x y first second = ap (λ z. z || y) first ∙ second

or_not_left : (x y : Bool) → (x || y) ≡ false → x ≡ false
or_not_left true y neither = neither
or_not_left false y neither = refl

or_not_right : (x y : Bool) → (x || y) ≡ false → y ≡ false
or_not_right true y neither = cc
or_not_right false y neither = neither

-- no member of the list has a float
pub AreFloatless : List Member → Type 0
AreFloatless [] = Unit {0}
AreFloatless (m ∷ ms) = (has_float m.1 ≡ false) × AreFloatless ms

floatless-put : (name : List ℕ) (d : Data) (ms : Members) → has_float d ≡ false → members_have_float ms ≡ false → members_have_float (put name d ms) ≡ false
floatless-put name d no_members new old = or_neither (has_float d) false new refl
floatless-put name d (member other e ms) new old =
    elim (slice_cmp nat_cmp name other)
    as (λ o. members_have_float (match_ordering o (member name d (member other e ms)) (member other d ms) (member other e (put name d ms))) ≡ false) [
      | Less ↦ or_neither (has_float d) (has_float e || members_have_float ms) new old
      | Equal ↦ or_neither (has_float d) (members_have_float ms) new (or_not_right (has_float e) (members_have_float ms) old)
      | Greater ↦ or_neither (has_float e) (members_have_float (put name d ms)) (or_not_left (has_float e) (members_have_float ms) old)
          (floatless-put name d ms new (or_not_right (has_float e) (members_have_float ms) old))
    ]

floatless-with_members : (ms : Members) (more : List Member) → members_have_float ms ≡ false → AreFloatless more → members_have_float (with_members ms more) ≡ false
unfolding with_members AreFloatless
floatless-with_members ms [] old new = old
floatless-with_members ms (m ∷ more) old new = floatless-with_members (put m.0 m.1 ms) more (floatless-put m.0 m.1 ms new.0 old) new.1

pub floatless-object_of : (ms : List Member) → AreFloatless ms → has_float (object_of ms) ≡ false
unfolding object_of
floatless-object_of ms all = floatless-with_members no_members ms refl all

AreFloatless-append : (a b : List Member) → AreFloatless a → AreFloatless b → AreFloatless (a ++ b)
unfolding AreFloatless
AreFloatless-append [] b first second = second
AreFloatless-append (m ∷ a) b first second = (first.0, AreFloatless-append a b first.1 second)

AreFloatless-if : (b : Bool) (ms : List Member) → AreFloatless ms → AreFloatless (if b then ms else [])
unfolding AreFloatless
AreFloatless-if true ms all = all
AreFloatless-if false ms all = tt

-- a member whose value is a text
AreFloatless-text : (name text : List ℕ) → AreFloatless ((name, string text) ∷ [])
unfolding AreFloatless
AreFloatless-text name text = (refl, tt)

AreFloatless-metadata : (form : JsonForm) (address : List ℕ) → AreFloatless (metadata form address)
AreFloatless-metadata form address = AreFloatless-if form.minimal _ (AreFloatless-text (codes "odata.metadata") address)

floatless-message_data : (value : List ℕ) → has_float (message_data value) ≡ false
unfolding message_data AreFloatless
floatless-message_data value = floatless-object_of _ (refl, (refl, tt))

pub floatless-fault_data : (code value : List ℕ) → has_float (fault_data code value) ≡ false
unfolding fault_data AreFloatless
floatless-fault_data code value = floatless-object_of _ (floatless-object_of _ (refl, (floatless-message_data value, tt)), tt)

pub floatless-table_data : (account name : List ℕ) (form : JsonForm) → has_float (table_data account name form) ≡ false
unfolding table_data AreFloatless
floatless-table_data account name form = floatless-object_of _ (refl, AreFloatless-metadata form _)

floatless-names : (names : List (List ℕ)) → items_have_float (items_of (map (λ name. object_of (table_name name ∷ [])) names)) ≡ false
floatless-names [] = refl
floatless-names (name ∷ names) =
    or_neither (has_float (object_of (table_name name ∷ []))) _ (floatless-object_of (table_name name ∷ []) (AreFloatless-text (codes "TableName") name)) (floatless-names names)

pub floatless-tables_data : (account : List ℕ) (names : List (List ℕ)) (form : JsonForm) → has_float (tables_data account names form) ≡ false
unfolding tables_data AreFloatless
floatless-tables_data account names form =
    floatless-object_of _ (AreFloatless-append _ _ (AreFloatless-metadata form (metadata_address account (codes "Tables"))) (floatless-names names, tt))
