-- The tokens of an object are those of its members, one after another.
use Rattle.std.proofs.Common.{◌≡◌, ℕ, pos, negsuc, List, [], ◌∷◌, ◌++◌, Bool, true, false, if◌then◌else◌, codes, flat_map, map, ◌+◌, ◌<◌, length, take, get_or, refl, ap, sym, ◌∙◌, append_assoc}
use Rattle.json.specs.Token.{Token}
use Rattle.json.specs.Print.{print}
use Rattle.json.specs.Tree.{json_tokens, items_tokens, members_tokens}
use Rattle.serde_json.specs.Data.{Data, no_members, object, array, string}
use Rattle.serde_json.specs.View.{items_of}
use Rattle.serde_json.specs.Written.{compact_text, outline, items_outline, members_outline}
use Rattle.serde_json.proofs.Texts.{print-outline}
use Rattle.tab_edm.specs.declared.values.Value.{Value}
use Rattle.tab_edm.specs.declared.values.Value.TheVariants.{Text, Flag, Int32, Int64, Moment, Guid, Bytes}
use Rattle.tab_rows.specs.Rows.{RowView}
use Rattle.tab_json.specs.Entities.{value_data, entity_members, version_of, metadata, metadata_address, page_data, page_json}
use Rattle.tab_json.specs.Objects.{Member, with_members, object_of}
use Rattle.tab_json.specs.declared.entities.JsonForm.{JsonForm}
use Rattle.tab_json.specs.declared.slots.Slot.{Slot}
use Rattle.tab_json.specs.declared.written.Leaf.{Leaf}
use Rattle.tab_json.proofs.ObjectLemmas.{flat_map-take-more}
use Rattle.tab_json.specs.Written.{leaf_data, written_members, value_written, leaf_written, member_written, object_written, row_written, rows_written, page_written}

value_is_written : (value : Value) → json_tokens (outline (value_data value)) ≡ value_written value ∷ []
unfolding value_data
value_is_written (Text text) = refl
value_is_written (Flag b) = refl
value_is_written (Int32 (pos n)) = refl
value_is_written (Int32 (negsuc n)) = refl
value_is_written (Int64 n) = refl
value_is_written (Moment tick) = refl
value_is_written (Guid bytes) = refl
value_is_written (Bytes bytes) = refl

leaf_is_written : (leaf : Leaf) → json_tokens (outline (leaf_data leaf)) ≡ leaf_written leaf ∷ []
leaf_is_written (Leaf.Text text) = refl
leaf_is_written (Leaf.Value value) = value_is_written value.now
leaf_is_written (Leaf.Moment tick) = refl
leaf_is_written (Leaf.ETag tick) = refl

members_are_written : (slots : List (Slot Leaf)) → members_tokens (members_outline (written_members slots)) ≡ flat_map member_written slots ++ Token.end_object ∷ []
members_are_written [] = refl
members_are_written (s ∷ slots) = rw (leaf_is_written s.value, members_are_written slots)

pub object_print : (slots : List (Slot Leaf)) → print (object_written slots) ≡ compact_text (object (written_members slots))
object_print slots = ap (λ ts. print (Token.begin_object ∷ ts)) (sym (members_are_written slots)) ∙ print-outline (object (written_members slots))

-- ---- lists that are written one element after another

-- the tokens of one more element
pub one_more : {X : Type 0} (f : X → List Token) (xs : List X) (i : ℕ) (x : X) (start t0 t1 : List Token) → i < length xs → x ≡ get_or xs i x
    → t0 ≡ start ++ flat_map f (take i xs) → t1 ≡ t0 ++ f x
    → t1 ≡ start ++ flat_map f (take (i + 1) xs)
one_more f xs i x start t0 t1 below is before one =
    one
    ∙ ap (λ ts. ts ++ f x) before
    ∙ append_assoc start (flat_map f (take i xs)) (f x)
    ∙ ap (λ ts. start ++ ts) (sym (flat_map-take-more f xs i x below is))

-- ---- rows and pages

pub row_is_object : (slots : List (Slot Leaf)) (form : JsonForm) (row : RowView) → written_members slots ≡ with_members no_members (entity_members form (version_of row)) → object_written slots ≡ row_written form row
unfolding object_of
row_is_object slots form row is =
    ap (λ ts. Token.begin_object ∷ ts) (sym (members_are_written slots)) ∙ ap (λ ms. json_tokens (outline (object ms))) is

items_are_rows : (form : JsonForm) (rows : List RowView) → items_tokens (items_outline (items_of (map (λ row. object_of (entity_members form (version_of row))) rows))) ≡ flat_map (row_written form) rows ++ Token.end_array ∷ []
items_are_rows form [] = refl
items_are_rows form (row ∷ rows) =
    ap (λ ts. row_written form row ++ ts) (items_are_rows form rows)
    ∙ sym (append_assoc (row_written form row) (flat_map (row_written form) rows) (Token.end_array ∷ []))

by_form : (minimal : Bool) (address : List ℕ) (rows : Data) (ts : List Token) → json_tokens (outline rows) ≡ ts
    → json_tokens (outline (object_of ((if minimal then (codes "odata.metadata", string address) ∷ [] else []) ++ (codes "value", rows) ∷ [])))
    ≡ Token.begin_object ∷ (((if minimal then Token.key (codes "odata.metadata") ∷ Token.string address ∷ [] else []) ++ Token.key (codes "value") ∷ ts) ++ Token.end_object ∷ [])
unfolding object_of with_members
by_form true address rows ts is = ap (λ t. Token.begin_object ∷ Token.key (codes "odata.metadata") ∷ Token.string address ∷ Token.key (codes "value") ∷ (t ++ Token.end_object ∷ [])) is
by_form false address rows ts is = ap (λ t. Token.begin_object ∷ Token.key (codes "value") ∷ (t ++ Token.end_object ∷ [])) is

pub page_print : (account name : List ℕ) (form : JsonForm) (rows : List RowView)
    → print (Token.begin_object ∷ (page_written form (metadata_address account name) rows ++ Token.end_object ∷ [])) ≡ page_json account name form rows
unfolding page_json page_data
page_print account name form rows =
    ap print (sym (by_form form.minimal (metadata_address account name) (array (items_of (map (λ row. object_of (entity_members form (version_of row))) rows))) (rows_written form rows) (ap (λ ts. Token.begin_array ∷ ts) (items_are_rows form rows))))
    ∙ print-outline (page_data account name form rows)

-- the address counts only where it is named
pub same_page : (form : JsonForm) (address named : List ℕ) (rows : List RowView) → (form.minimal ≡ true → address ≡ named) → page_written form address rows ≡ page_written form named rows
same_page form address named rows same = ap (λ ts. ts ++ Token.key (codes "value") ∷ rows_written form rows) (named_only form.minimal same)
  where
    named_only : (minimal : Bool) → (minimal ≡ true → address ≡ named)
        → (if minimal then Token.key (codes "odata.metadata") ∷ Token.string address ∷ [] else []) ≡ (if minimal then Token.key (codes "odata.metadata") ∷ Token.string named ∷ [] else [])
    named_only true same = ap (λ (a : List ℕ). Token.key (codes "odata.metadata") ∷ Token.string a ∷ []) (same refl)
    named_only false same = refl

pub same_metadata : (form : JsonForm) (address named : List ℕ) → (form.minimal ≡ true → address ≡ named) → metadata form address ≡ metadata form named
same_metadata form address named same = named_only form.minimal same
  where
    named_only : (minimal : Bool) → (minimal ≡ true → address ≡ named)
        → ◌≡◌ {A = List Member} (if minimal then (codes "odata.metadata", string address) ∷ [] else []) (if minimal then (codes "odata.metadata", string named) ∷ [] else [])
    named_only true same = ap (λ (a : List ℕ). (codes "odata.metadata", string a) ∷ []) (same refl)
    named_only false same = refl
