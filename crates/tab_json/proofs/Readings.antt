-- Bodies, member by member.
use Rattle.std.proofs.Common.{◌≡◌, ◌≢◌, ℕ, Equal, true≢false, List, [], ◌∷◌, ◌++◌, Bool, true, false, ◌||◌, cond, IsTrue, IsFalse, Option, Some, None, is_some, Result, Ok, Err, fold, bytes_eq, codes, nat_cmp, refl, sym, ap, ◌∙◌, arith, append_assoc, append-nil}
use Rattle.std.specs.Bool.{⊤}
use Rattle.std.specs.List.{All, AllPairs}
use Rattle.std.specs.Ordering.{is_lt}
use Rattle.std.specs.Cmp.Lexicographic.{slice_cmp}
use Rattle.std.proofs.lemmas.Bool.{or_from, or_parts}
use Rattle.std.proofs.lemmas.Cmp.{nat_list_cmp_total, tied_itself}
use Rattle.std.proofs.lemmas.List.Elements.{All-cons, All-nil}
use Rattle.std.proofs.lemmas.List.Kept.{AllPairs-cons}
use Rattle.serde_json.specs.Data.{Data, Members, no_members, member}
use Rattle.tab_edm.specs.Entities.{name_lt, IsRising}
use Rattle.tab_edm.specs.Values.{is_reserved}
use Rattle.tab_edm.specs.declared.values.Value.{Value}
use Rattle.tab_edm.specs.declared.values.Property.{Property}
use Rattle.tab_json.specs.Bodies.{is_ignored, annotated_by, is_null, is_given, type_in, text_of, value_of, key_by, property_by, meaning_by, meaning_of, mapped, before, meanings, all_or_refusal, with_meaning, no_entity, entity_in}
use Rattle.tab_json.specs.declared.members_read.Meaning.{Meaning}
use Rattle.tab_json.specs.declared.bodies.BodyEntity.{BodyEntity}
use Rattle.tab_json.specs.declared.bodies.JsonRefused.{JsonRefused}
use Rattle.tab_json.proofs.FlatObjects.{Before, Each, each_weaker, Above, IsSorted}

-- ---- the members that are left

-- what an entity so far and the members that are left give
pub entity_after : Data → BodyEntity → Members → Result BodyEntity JsonRefused
entity_after body entity left = mapped (fold with_meaning entity) (all_or_refusal (meanings body left))

pub at_first : (body : Data) (ms : Members) → entity_in body ms ≡ entity_after body no_entity ms
unfolding entity_in entity_after
at_first body ms = refl

pub at_last : (body : Data) (entity : BodyEntity) → entity_after body entity no_members ≡ Ok entity
unfolding entity_after meanings all_or_refusal
at_last body entity = refl

with_first : (entity : BodyEntity) (meaning : Meaning) (later : Result (List Meaning) JsonRefused) → mapped (fold with_meaning entity) (mapped (λ more. meaning ∷ more) later) ≡ mapped (fold with_meaning (with_meaning entity meaning)) later
with_first entity meaning (Ok more) = refl
with_first entity meaning (Err why) = refl

-- one more member means something
pub one_more : (body : Data) (entity next : BodyEntity) (name : List ℕ) (value : Data) (later : Members) (meaning : Meaning) → meaning_of body name value ≡ Ok meaning → next ≡ with_meaning entity meaning
    → entity_after body entity (member name value later) ≡ entity_after body next later
unfolding entity_after meanings all_or_refusal
one_more body entity next name value later meaning means is =
    ap (λ (first : Result Meaning JsonRefused). mapped (fold with_meaning entity) (before first (all_or_refusal (meanings body later)))) means
    ∙ with_first entity meaning (all_or_refusal (meanings body later))
    ∙ ap (λ (e : BodyEntity). mapped (fold with_meaning e) (all_or_refusal (meanings body later))) (sym is)

-- one more member is refused
pub one_refused : (body : Data) (entity : BodyEntity) (name : List ℕ) (value : Data) (later : Members) (why : JsonRefused) → meaning_of body name value ≡ Err why
    → entity_after body entity (member name value later) ≡ Err why
unfolding entity_after meanings all_or_refusal
one_refused body entity name value later why refused =
    ap (λ (first : Result Meaning JsonRefused). mapped (fold with_meaning entity) (before first (all_or_refusal (meanings body later)))) refused

-- ---- the properties

-- the property that a meaning is, as a list
property_in : Meaning → List Property
property_in Meaning.Nothing = []
property_in (Meaning.PartitionKey key) = []
property_in (Meaning.RowKey key) = []
property_in (Meaning.Property property) = property ∷ []

properties_of : List Meaning → List Property
properties_of [] = []
properties_of (meaning ∷ more) = property_in meaning ++ properties_of more

with_property : (entity : BodyEntity) (meaning : Meaning) → (with_meaning entity meaning).properties ≡ entity.properties ++ property_in meaning
unfolding property_in
with_property entity Meaning.Nothing = sym (append-nil entity.properties)
with_property entity (Meaning.PartitionKey key) = sym (append-nil entity.properties)
with_property entity (Meaning.RowKey key) = sym (append-nil entity.properties)
with_property entity (Meaning.Property property) = refl

with_properties : (entity : BodyEntity) (more : List Meaning) → (fold with_meaning entity more).properties ≡ entity.properties ++ properties_of more
unfolding properties_of
with_properties entity [] = sym (append-nil entity.properties)
with_properties entity (meaning ∷ more) =
    with_properties (with_meaning entity meaning) more ∙ ap (λ (ps : List Property). ps ++ properties_of more) (with_property entity meaning)
    ∙ append_assoc entity.properties (property_in meaning) (properties_of more)

-- ---- their names

-- a property has the name of its member, which the service does not keep for itself
abbrev IsNamed : List ℕ → Property → Type 0
IsNamed name property = (property.name ≡ name) × IsFalse (is_reserved name)

abbrev fine : Meaning → Result Meaning JsonRefused
fine meaning = Ok meaning

no_key : (f : List ℕ → Meaning) (property : Property) (k : Result (List ℕ) JsonRefused) → ((text : List ℕ) → fine (f text) ≡ fine (Meaning.Property property) → ⊥) → mapped f k ≡ fine (Meaning.Property property) → ⊥
no_key f property (Ok text) never e = never text e
no_key f property (Err why) never e = absurd (cc)

named_property : (name : List ℕ) (value : Option Value) (property : Property) → property_by name value ≡ Ok (Meaning.Property property) → property.name ≡ name
named_property name None property e = absurd (cc)
named_property name (Some value) property e = cc

named_value : (body : Data) (name : List ℕ) (value : Data) (property : Property) (null pk rk : Bool) → is_null value ≡ null → bytes_eq name (codes "PartitionKey") ≡ pk → bytes_eq name (codes "RowKey") ≡ rk
    → bytes_eq name (codes "Timestamp") ≡ false
    → cond null (Ok Meaning.Nothing) (cond pk (mapped Meaning.PartitionKey (key_by name (text_of body name value))) (cond rk (mapped Meaning.RowKey (key_by name (text_of body name value))) (property_by name (value_of body name value)))) ≡ Ok (Meaning.Property property)
    → IsNamed name property
named_value body name value property true pk rk n p r t e = absurd (cc)
named_value body name value property false true rk n p r t e = absurd (no_key Meaning.PartitionKey property _ (λ text same. absurd (cc)) e)
named_value body name value property false false true n p r t e = absurd (no_key Meaning.RowKey property _ (λ text same. absurd (cc)) e)
named_value body name value property false false false n p r t e = (named_property name (value_of body name value) property e, or_from _ _ (or_from _ _ p r) t)

annotates_nothing : (test : Bool) (name : List ℕ) (property : Property) → cond test (Ok Meaning.Nothing) (Err (JsonRefused.ValueType name)) ≡ Ok (Meaning.Property property) → ⊥
annotates_nothing true name property e = absurd (cc)
annotates_nothing false name property e = absurd (cc)

named_by : (body : Data) (name : List ℕ) (value : Data) (property : Property) (ignored : Bool) (annotated : Option (List ℕ)) → is_ignored name ≡ ignored
    → cond ignored (Ok Meaning.Nothing) (meaning_by body annotated name value) ≡ Ok (Meaning.Property property) → IsNamed name property
named_by body name value property true annotated i e = absurd (cc)
named_by body name value property false (Some other) i e = absurd (annotates_nothing (is_given body other || is_some (type_in value)) other property e)
named_by body name value property false None i e =
    let kept = or_parts _ _ (or_parts _ _ i).0 in
    named_value body name value property _ _ _ refl refl refl kept.1 e

named : (body : Data) (name : List ℕ) (value : Data) (property : Property) → meaning_of body name value ≡ Ok (Meaning.Property property) → IsNamed name property
unfolding meaning_of
named body name value property e = named_by body name value property (is_ignored name) (annotated_by name) refl e

-- ---- the properties of members in order

record FirstMeans (first : Result Meaning JsonRefused) (later : Result (List Meaning) JsonRefused) (all : List Meaning) : Type 0 where
  meaning : Meaning
  more : List Meaning
  first_is : first ≡ Ok meaning
  later_is : later ≡ Ok more
  all_is : all ≡ meaning ∷ more

first_means : (first : Result Meaning JsonRefused) (later : Result (List Meaning) JsonRefused) (all : List Meaning) → before first later ≡ Ok all → FirstMeans first later all
first_means (Ok meaning) (Ok more) all e = record { meaning = meaning; more = more; first_is = refl; later_is = refl; all_is = cc }
first_means (Ok meaning) (Err why) all e = absurd (cc)
first_means (Err why) later all e = absurd (cc)

member_means : (body : Data) (name : List ℕ) (value : Data) (later : Members) (all : List Meaning) → all_or_refusal (meanings body (member name value later)) ≡ Ok all
    → FirstMeans (meaning_of body name value) (all_or_refusal (meanings body later)) all
unfolding meanings all_or_refusal
member_means body name value later all e = first_means _ _ all e

no_meanings : (body : Data) (all : List Meaning) → all_or_refusal (meanings body no_members) ≡ Ok all → all ≡ []
unfolding meanings all_or_refusal
no_meanings body all e = cc

-- what holds of the names of all members holds of the names of the properties
IsOf : (List ℕ → Type 0) → Property → Type 0
IsOf P property = P property.name × IsFalse (is_reserved property.name)

one_of : (P : List ℕ → Type 0) (body : Data) (name : List ℕ) (value : Data) (meaning : Meaning) (rest : List Property) → meaning_of body name value ≡ Ok meaning → P name → All (IsOf P) rest → All (IsOf P) (property_in meaning ++ rest)
unfolding property_in IsOf
one_of P body name value Meaning.Nothing rest means holds later = later
one_of P body name value (Meaning.PartitionKey key) rest means holds later = later
one_of P body name value (Meaning.RowKey key) rest means holds later = later
one_of P body name value (Meaning.Property property) rest means holds later =
    let is = named body name value property means in All-cons (IsOf P) property rest (rw (is.0) (holds, is.1)) later

all_of : (P : List ℕ → Type 0) (body : Data) (ms : Members) (all : List Meaning) → all_or_refusal (meanings body ms) ≡ Ok all → Each (λ k d. P k) ms → All (IsOf P) (properties_of all)
unfolding properties_of
all_of P body no_members all e holds = rw (no_meanings body all e) (All-nil (IsOf P))
all_of P body (member k d ms) all e holds =
    let first = member_means body k d ms all e in
    rw (first.all_is) (one_of P body k d first.meaning _ first.first_is holds.0 (all_of P body ms first.more first.later_is holds.1))

abbrev IsBelow : List ℕ → List ℕ → Type 0
IsBelow a b = IsTrue (is_lt (slice_cmp nat_cmp a b))

below : (k : List ℕ) (ms : Members) → Above k ms → Each (λ l e. IsBelow k l) ms
below k ms above = each_weaker (λ l e. Before k l) (λ l e. IsBelow k l) (λ l e h. ap is_lt h) ms above

one_rises : (body : Data) (name : List ℕ) (value : Data) (meaning : Meaning) (rest : List Property) → meaning_of body name value ≡ Ok meaning → All (IsOf (IsBelow name)) rest → IsRising rest → IsRising (property_in meaning ++ rest)
unfolding property_in IsOf
one_rises body name value Meaning.Nothing rest means later rising = rising
one_rises body name value (Meaning.PartitionKey key) rest means later rising = rising
one_rises body name value (Meaning.RowKey key) rest means later rising = rising
one_rises body name value (Meaning.Property property) rest means later rising =
    let is = named body name value property means in
    AllPairs-cons (λ a b. IsTrue (name_lt a b)) property rest (λ k d within. rw (is.0) ((later k d within).0)) rising

all_rise : (body : Data) (ms : Members) (all : List Meaning) → all_or_refusal (meanings body ms) ≡ Ok all → IsSorted ms → IsRising (properties_of all)
unfolding properties_of
all_rise body no_members all e sorted = rw (no_meanings body all e) (λ i j d lt within. absurd (omega arith))
all_rise body (member k d ms) all e sorted =
    let first = member_means body k d ms all e in
    rw (first.all_is) (one_rises body k d first.meaning _ first.first_is (all_of (IsBelow k) body ms first.more first.later_is (below k ms sorted.0)) (all_rise body ms first.more first.later_is sorted.1))

-- ---- the entity of members in order

record FromMeanings (read : Result (List Meaning) JsonRefused) (entity : BodyEntity) : Type 0 where
  all : List Meaning
  read_is : read ≡ Ok all
  properties_are : entity.properties ≡ properties_of all

from_meanings : (read : Result (List Meaning) JsonRefused) (entity : BodyEntity) → mapped (fold with_meaning no_entity) read ≡ Ok entity → FromMeanings read entity
from_meanings (Ok all) entity e =
    let is : fold with_meaning no_entity all ≡ entity = cc in record { all = all; read_is = refl; properties_are = ap (λ (b : BodyEntity). b.properties) (sym is) ∙ with_properties no_entity all }
from_meanings (Err why) entity e = absurd (cc)

pub entity_rises : (body : Data) (ms : Members) (entity : BodyEntity) → entity_in body ms ≡ Ok entity → IsSorted ms → IsRising entity.properties
unfolding entity_in
entity_rises body ms entity e sorted = let from = from_meanings _ entity e in rw (from.properties_are) (all_rise body ms from.all from.read_is sorted)

anything : (ms : Members) → Each (λ k d. ⊤) ms
anything no_members = tt
anything (member k d ms) = (tt, anything ms)

pub entity_unreserved : (body : Data) (ms : Members) (entity : BodyEntity) → entity_in body ms ≡ Ok entity → All (λ p. IsFalse (is_reserved p.name)) entity.properties
unfolding entity_in IsOf
entity_unreserved body ms entity e =
    let from = from_meanings _ entity e in
    let every = all_of (λ _. ⊤) body ms from.all from.read_is (anything ms) in rw (from.properties_are) (λ k d within. (every k d within).1)

-- ---- names that rise

apart : (a b : List ℕ) → IsBelow a b → a ≢ b
apart a b lower same =
    let tied : slice_cmp nat_cmp b b ≡ Equal = tied_itself nat_list_cmp_total b in
    absurd (true≢false (sym lower ∙ ap (λ (x : List ℕ). is_lt (slice_cmp nat_cmp x b)) same ∙ ap is_lt tied))

-- names that rise are not the same
pub distinct : (properties : List Property) → IsRising properties → AllPairs (λ a b. a.name ≢ b.name) properties
distinct properties rising i j d lt within = apart _ _ (rising i j d lt within)
