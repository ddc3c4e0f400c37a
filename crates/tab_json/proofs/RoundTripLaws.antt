-- Reading the text of an entity gives its keys and its properties.
use Rattle.std.proofs.Common.{◌≡◌, ◌≢◌, ℕ, ◌⊎◌, inl, inr, List, [], ◌∷◌, ◌++◌, flat_map, Bool, true, false, ◌||◌, cond, All, IsTrue, IsFalse, IsUtf8, Option, Some, None, Result, Ok, Err, is_some, refl, sym, ap, subst, ◌∙◌, codes, bytes_eq, true≢false, append_assoc, append-nil}
use Rattle.std.specs.Prelude.{⊤, option_map, option_to_list}
use Rattle.std.specs.List.{AllByRecursion}
use Rattle.std.specs.Ordering.{nat_cmp, is_lt}
use Rattle.std.specs.declared.cmp.Ordering.{Ordering}
use Rattle.std.specs.declared.cmp.Ordering.TheVariants.{Less, Equal, Greater}
use Rattle.std.specs.Cmp.Lexicographic.{slice_cmp}
use Rattle.std.proofs.lemmas.Bool.{false_from_ne_true}
use Rattle.std.proofs.lemmas.List.Elements.{All-head, All-tail}
use Rattle.std.proofs.lemmas.Slice.Eq.{bytes_eq-Decides}
use Rattle.std.proofs.lemmas.Str.{IsUtf8-append, is_utf8-from_IsUtf8}
use Rattle.json.proofs.Printed.Utf8.{are_ascii, IsUtf8-are_ascii}
use Rattle.std.specs.Option.{option_or}
use Rattle.serde_json.specs.Data.{Data, Members, no_members, member, object, string, put}
use Rattle.serde_json.specs.Find.{get, get_member}
use Rattle.serde_json.specs.Written.{compact_text}
use Rattle.serde_json.proofs.Views.{get_member-put, get_member-put_other}
use Rattle.tab_keys.specs.KeyTexts.{key_refusal}
use Rattle.tab_edm.specs.Entities.{IsRising, property_refusal, entity_refusal, first_refusal, name_lt}
use Rattle.tab_edm.specs.Moments.{text_of_moment, text_of_etag}
use Rattle.tab_edm.specs.Values.{IsValue, IsProperty, IsInTime, is_reserved}
use Rattle.tab_edm.specs.declared.values.Value.{Value}
use Rattle.tab_edm.specs.declared.values.Value.TheVariants.{Text, Flag, Int32, Int64, Moment, Guid, Bytes}
use Rattle.tab_edm.specs.declared.values.Property.{Property}
use Rattle.tab_edm.specs.declared.entities.EdmRefused.{EdmRefused}
use Rattle.tab_edm.proofs.Refusals.{each_allowed}
use Rattle.tab_rows.proofs.Lists.{AllPairs-head, AllPairs-tail}
use Rattle.tab_json.specs.Bodies.{is_ignored, annotation_of, annotated_by, is_given, text_of, value_of, meaning_by, meaning_of, with_meaning, no_entity, entity_in, json_in, of_object, entity_body}
use Rattle.tab_rows.specs.Rows.{RowView, IsKept}
use Rattle.tab_json.specs.Entities.{VersionView, version_of, value_data, annotated_type, annotation, property_members, key_members, etag, entity_members, metadata, metadata_address, entity_data, entity_json}
use Rattle.tab_json.specs.Objects.{Member, with_members, object_of}
use Rattle.tab_json.specs.RoundTrips.{IsVersion, whole_form, IsReadBack}
use Rattle.tab_json.specs.Values.{named_type}
use Rattle.tab_json.specs.declared.bodies.BodyEntity.{BodyEntity}
use Rattle.tab_json.specs.declared.bodies.JsonRefused.{JsonRefused}
use Rattle.tab_json.specs.declared.members_read.Meaning.{Meaning}
use Rattle.tab_json.proofs.FlatObjects.{Before, before_both, not_before_itself, Each, each_weaker, Fresh, IsSorted, each_put, sorted_put, gathered, gathered_same, gathered_last, gathered_alone, IsAtom, AreAtoms, flat_read, flat_text}
use Rattle.tab_json.proofs.MomentTexts.{moment_text, etag_text}
use Rattle.tab_json.proofs.ObjectLemmas.{with_members-append, with_members-nil}
use Rattle.tab_json.proofs.PlainNames.{has, IsPlainName, plain_name, annotation_has_at, annotation_apart, same_annotated, not_own, not_ignored, not_annotated, annotates_name, apart_by}
use Rattle.tab_json.proofs.Readings.{entity_after, at_first, at_last, one_more}
use Rattle.tab_json.proofs.ValueTrips.{value_back, value_given, value_atom}

abbrev Meant : Type 0
Meant = Result Meaning JsonRefused

-- ---- what meanings give

abbrev property_in : Meant → List Property
property_in (Ok Meaning.Nothing) = []
property_in (Ok (Meaning.PartitionKey key)) = []
property_in (Ok (Meaning.RowKey key)) = []
property_in (Ok (Meaning.Property p)) = p ∷ []
property_in (Err why) = []

abbrev pk_in : Meant → List (List ℕ)
pk_in (Ok Meaning.Nothing) = []
pk_in (Ok (Meaning.PartitionKey key)) = key ∷ []
pk_in (Ok (Meaning.RowKey key)) = []
pk_in (Ok (Meaning.Property p)) = []
pk_in (Err why) = []

abbrev rk_in : Meant → List (List ℕ)
rk_in (Ok Meaning.Nothing) = []
rk_in (Ok (Meaning.PartitionKey key)) = []
rk_in (Ok (Meaning.RowKey key)) = key ∷ []
rk_in (Ok (Meaning.Property p)) = []
rk_in (Err why) = []

abbrev properties_in : Data → List ℕ → Data → List Property
properties_in body k d = property_in (meaning_of body k d)

abbrev pks_in : Data → List ℕ → Data → List (List ℕ)
pks_in body k d = pk_in (meaning_of body k d)

abbrev rks_in : Data → List ℕ → Data → List (List ℕ)
rks_in body k d = rk_in (meaning_of body k d)

-- the member is not refused
record IsFine (body : Data) (k : List ℕ) (d : Data) : Type 0 where
  meaning : Meaning
  is : meaning_of body k d ≡ Ok meaning

-- the last of these keys, or this one
abbrev latest : Option (List ℕ) → List (List ℕ) → Option (List ℕ)
latest found [] = found
latest found (key ∷ keys) = latest (Some key) keys

abbrev collected : BodyEntity → List (List ℕ) → List (List ℕ) → List Property → BodyEntity
collected e pks rks properties = record { pk = latest e.pk pks; rk = latest e.rk rks; properties = e.properties ++ properties }

collected_more : (e : BodyEntity) (meaning : Meaning) (pks rks : List (List ℕ)) (properties : List Property)
    → collected (with_meaning e meaning) pks rks properties ≡ collected e (pk_in (Ok meaning) ++ pks) (rk_in (Ok meaning) ++ rks) (property_in (Ok meaning) ++ properties)
collected_more e Meaning.Nothing pks rks properties = refl
collected_more e (Meaning.PartitionKey key) pks rks properties = refl
collected_more e (Meaning.RowKey key) pks rks properties = refl
collected_more e (Meaning.Property p) pks rks properties = ap (λ (ps : List Property). record { pk = latest e.pk pks; rk = latest e.rk rks; properties = ps }) (append_assoc e.properties (p ∷ []) properties)

all_collected : (body : Data) (e : BodyEntity) (ms : Members) → Each (IsFine body) ms
    → entity_after body e ms ≡ Ok (collected e (gathered (pks_in body) ms) (gathered (rks_in body) ms) (gathered (properties_in body) ms))
all_collected body e no_members fine =
    at_last body e ∙ ap (λ (ps : List Property). Ok (record { pk = e.pk; rk = e.rk; properties = ps })) (sym (append-nil e.properties))
all_collected body e (member k d ms) fine =
    let first = fine.0 in
    one_more body e (with_meaning e first.meaning) k d ms first.meaning first.is refl
    ∙ (all_collected body (with_meaning e first.meaning) ms fine.1
    ∙ (ap Ok (collected_more e first.meaning (gathered (pks_in body) ms) (gathered (rks_in body) ms) (gathered (properties_in body) ms))
    ∙ ap (λ (r : Meant). Ok (collected e (pk_in r ++ gathered (pks_in body) ms) (rk_in r ++ gathered (rks_in body) ms) (property_in r ++ gathered (properties_in body) ms))) (sym first.is)))

-- ---- what the members of an entity mean

-- what is known of a property of the entity, in the whole body
record Fits (body : Data) (p : Property) : Type 0 where
  plain : IsPlainName p.name
  name : IsUtf8 p.name
  value : IsValue p.value
  in_time : IsInTime p.value
  found : get (annotation_of p.name) body ≡ option_map string (annotated_type p.value)

not_same : (a b : List ℕ) → a ≢ b → bytes_eq a b ≡ false
not_same a b apart = false_from_ne_true _ (λ same. apart ((bytes_eq-Decides a b).0 same))

means_property : (body : Data) (p : Property) → Fits body p → meaning_of body p.name (value_data p.value) ≡ Ok (Meaning.Property p)
unfolding meaning_of value_of
means_property body p fits =
    rw (not_ignored p.name fits.plain, not_annotated p.name fits.plain, value_given p.value, not_same p.name (codes "PartitionKey") (not_own p.name (codes "PartitionKey") fits.plain refl), not_same p.name (codes "RowKey") (not_own p.name (codes "RowKey") fits.plain refl), fits.found, value_back p.value fits.value fits.in_time) refl

either_nothing : (a b : Bool) (r : Meant) → r ≡ Ok Meaning.Nothing → cond a (Ok Meaning.Nothing) r ≡ Ok Meaning.Nothing
either_nothing true b r is = refl
either_nothing false b r is = is

or_is : (a b : Bool) → b ≡ true → (a || b) ≡ true
or_is true b is = refl
or_is false b is = is

means_nothing : (body : Data) (name kind : List ℕ) → is_some (named_type kind) ≡ true → meaning_of body (annotation_of name) (string kind) ≡ Ok Meaning.Nothing
unfolding meaning_of
means_nothing body name kind is =
    either_nothing (is_ignored (annotation_of name)) true (meaning_by body (annotated_by (annotation_of name)) (annotation_of name) (string kind))
    (ap (λ (o : Option (List ℕ)). meaning_by body o (annotation_of name) (string kind)) (annotates_name name)
    ∙ ap (λ (t : Bool). cond t (Ok Meaning.Nothing) (Err (JsonRefused.ValueType name))) (or_is (is_given body name) (is_some (named_type kind)) is))

means_pk : (body : Data) (pk : List ℕ) → get (codes "PartitionKey@odata.type") body ≡ None → key_refusal pk ≡ None → meaning_of body (codes "PartitionKey") (string pk) ≡ Ok (Meaning.PartitionKey pk)
unfolding meaning_of annotated_by text_of
means_pk body pk none allowed = rw (none, allowed) refl

means_rk : (body : Data) (rk : List ℕ) → get (codes "RowKey@odata.type") body ≡ None → key_refusal rk ≡ None → meaning_of body (codes "RowKey") (string rk) ≡ Ok (Meaning.RowKey rk)
unfolding meaning_of annotated_by text_of
means_rk body rk none allowed = rw (none, allowed) refl

means_tick : (body value : Data) → meaning_of body (codes "Timestamp") value ≡ Ok Meaning.Nothing
unfolding meaning_of
means_tick body value = refl

means_etag : (body value : Data) → meaning_of body (codes "odata.etag") value ≡ Ok Meaning.Nothing
unfolding meaning_of
means_etag body value = refl

means_metadata : (body value : Data) → meaning_of body (codes "odata.metadata") value ≡ Ok Meaning.Nothing
unfolding meaning_of
means_metadata body value = refl

-- ---- putting the properties, one after another

-- the member came from a property with a plain name: it is that property, or its annotation, which means nothing
record Came (body : Data) (Bound : List ℕ → Type 0) (k : List ℕ) (d : Data) : Type 0 where
  name : List ℕ
  plain : IsPlainName name
  bound : Bound name
  is : (k ≡ name) ⊎ ((k ≡ annotation_of name) × (properties_in body k d ≡ []))

came_fresh : (body : Data) (k : List ℕ) (d : Data) (own : List ℕ) → IsPlainName own → Came body (λ n. Before n own) k d → k ≢ own
came_fresh body k d own plain came e = by_case came.is
  where
    by_case : (k ≡ came.name) ⊎ ((k ≡ annotation_of came.name) × (properties_in body k d ≡ [])) → ⊥
    by_case (inl same) = not_before_itself own (subst (λ (n : List ℕ). Before n own) (sym same ∙ e) came.bound)
    by_case (inr other) = annotation_apart came.name own plain.no_at (sym other.0 ∙ e)

came_apart : (body : Data) (k : List ℕ) (d : Data) (own : List ℕ) → Came body (λ n. Before n own) k d → k ≢ annotation_of own
came_apart body k d own came e = by_case came.is
  where
    by_case : (k ≡ came.name) ⊎ ((k ≡ annotation_of came.name) × (properties_in body k d ≡ [])) → ⊥
    by_case (inl same) = annotation_apart own came.name came.plain.no_at (sym e ∙ same)
    by_case (inr other) = not_before_itself own (subst (λ (n : List ℕ). Before n own) (same_annotated came.name own (sym other.0 ∙ e)) came.bound)

came_gives : (body : Data) (k : List ℕ) (d : Data) (own : List ℕ) → Came body (λ n. Before n own) k d → Before k own ⊎ (properties_in body k d ≡ [])
came_gives body k d own came = by_case came.is
  where
    by_case : (k ≡ came.name) ⊎ ((k ≡ annotation_of came.name) × (properties_in body k d ≡ [])) → Before k own ⊎ (properties_in body k d ≡ [])
    by_case (inl same) = inl (subst (λ (n : List ℕ). Before n own) (sym same) came.bound)
    by_case (inr other) = inr other.1

came_weaker : (body : Data) (P Q : List ℕ → Type 0) → ((n : List ℕ) → P n → Q n) → (k : List ℕ) (d : Data) → Came body P k d → Came body Q k d
came_weaker body P Q f k d came = record { name = came.name; plain = came.plain; bound = f came.name came.bound; is = came.is }

-- what has been put gives these properties and these keys
record IsBuilt (body : Data) (ms : Members) (done : List Property) (pks rks : List (List ℕ)) : Type 0 where
  sorted : IsSorted ms
  atoms : AreAtoms ms
  fine : Each (IsFine body) ms
  properties : gathered (properties_in body) ms ≡ done
  pks_are : gathered (pks_in body) ms ≡ pks
  rks_are : gathered (rks_in body) ms ≡ rks

-- one more member, which gives neither a property nor a key
put_nothing : (body : Data) (k : List ℕ) (d : Data) (ms : Members) (done : List Property) (pks rks : List (List ℕ)) → IsBuilt body ms done pks rks → Fresh k ms → meaning_of body k d ≡ Ok Meaning.Nothing → IsUtf8 k → IsAtom d
    → IsBuilt body (put k d ms) done pks rks
put_nothing body k d ms done pks rks built fresh means name atom = record {
  sorted = sorted_put k d ms built.sorted fresh;
  atoms = each_put (λ l e. IsUtf8 l × IsAtom e) k d ms built.sorted fresh (name, atom) built.atoms;
  fine = each_put (IsFine body) k d ms built.sorted fresh (record { meaning = Meaning.Nothing; is = means }) built.fine;
  properties = gathered_same (properties_in body) k d ms built.sorted fresh (ap property_in means) ∙ built.properties;
  pks_are = gathered_same (pks_in body) k d ms built.sorted fresh (ap pk_in means) ∙ built.pks_are;
  rks_are = gathered_same (rks_in body) k d ms built.sorted fresh (ap rk_in means) ∙ built.rks_are;
}

put_pk : (body : Data) (k : List ℕ) (d : Data) (key : List ℕ) (ms : Members) (done : List Property) (rks : List (List ℕ)) → IsBuilt body ms done [] rks → Fresh k ms → meaning_of body k d ≡ Ok (Meaning.PartitionKey key) → IsUtf8 k → IsAtom d
    → IsBuilt body (put k d ms) done (key ∷ []) rks
put_pk body k d key ms done rks built fresh means name atom = record {
  sorted = sorted_put k d ms built.sorted fresh;
  atoms = each_put (λ l e. IsUtf8 l × IsAtom e) k d ms built.sorted fresh (name, atom) built.atoms;
  fine = each_put (IsFine body) k d ms built.sorted fresh (record { meaning = Meaning.PartitionKey key; is = means }) built.fine;
  properties = gathered_same (properties_in body) k d ms built.sorted fresh (ap property_in means) ∙ built.properties;
  pks_are = gathered_alone (pks_in body) k d ms built.sorted fresh built.pks_are ∙ ap pk_in means;
  rks_are = gathered_same (rks_in body) k d ms built.sorted fresh (ap rk_in means) ∙ built.rks_are;
}

put_rk : (body : Data) (k : List ℕ) (d : Data) (key : List ℕ) (ms : Members) (done : List Property) (pks : List (List ℕ)) → IsBuilt body ms done pks [] → Fresh k ms → meaning_of body k d ≡ Ok (Meaning.RowKey key) → IsUtf8 k → IsAtom d
    → IsBuilt body (put k d ms) done pks (key ∷ [])
put_rk body k d key ms done pks built fresh means name atom = record {
  sorted = sorted_put k d ms built.sorted fresh;
  atoms = each_put (λ l e. IsUtf8 l × IsAtom e) k d ms built.sorted fresh (name, atom) built.atoms;
  fine = each_put (IsFine body) k d ms built.sorted fresh (record { meaning = Meaning.RowKey key; is = means }) built.fine;
  properties = gathered_same (properties_in body) k d ms built.sorted fresh (ap property_in means) ∙ built.properties;
  pks_are = gathered_same (pks_in body) k d ms built.sorted fresh (ap pk_in means) ∙ built.pks_are;
  rks_are = gathered_alone (rks_in body) k d ms built.sorted fresh built.rks_are ∙ ap rk_in means;
}

-- one more property, whose name is behind those that came
put_property : (body : Data) (p : Property) (ms : Members) (done : List Property) → IsBuilt body ms done [] [] → Fits body p → Each (Came body (λ n. Before n p.name)) ms
    → IsBuilt body (put p.name (value_data p.value) ms) (done ++ p ∷ []) [] []
put_property body p ms done built fits before =
    let k = p.name in
    let d = value_data p.value in
    let means = means_property body p fits in
    let fresh = each_weaker (Came body (λ n. Before n k)) (λ l e. l ≢ k) (λ l e came. came_fresh body l e k fits.plain came) ms before in
    let gives = each_weaker (Came body (λ n. Before n k)) (λ l e. Before l k ⊎ (properties_in body l e ≡ [])) (λ l e came. came_gives body l e k came) ms before in
    record {
      sorted = sorted_put k d ms built.sorted fresh;
      atoms = each_put (λ l e. IsUtf8 l × IsAtom e) k d ms built.sorted fresh (fits.name, value_atom p.value fits.value) built.atoms;
      fine = each_put (IsFine body) k d ms built.sorted fresh (record { meaning = Meaning.Property p; is = means }) built.fine;
      properties = gathered_last (properties_in body) k d ms built.sorted fresh gives ∙ (ap (λ (ps : List Property). ps ++ properties_in body k d) built.properties ∙ ap (λ (r : Meant). done ++ property_in r) means);
      pks_are = gathered_same (pks_in body) k d ms built.sorted fresh (ap pk_in means) ∙ built.pks_are;
      rks_are = gathered_same (rks_in body) k d ms built.sorted fresh (ap rk_in means) ∙ built.rks_are;
    }

record IsKind (kind : List ℕ) : Type 0 where
  known : is_some (named_type kind) ≡ true
  text : IsUtf8 kind

none_some : (kind : List ℕ) → ◌≡◌ {A = Option (List ℕ)} None (Some kind) → ⊥
none_some kind e = cc

some_same : (a b : List ℕ) → ◌≡◌ {A = Option (List ℕ)} (Some a) (Some b) → a ≡ b
some_same a b e = cc

kind_of : (v : Value) (kind : List ℕ) → annotated_type v ≡ Some kind → IsKind kind
unfolding annotated_type named_type
kind_of (Text text) kind is = absurd (none_some kind is)
kind_of (Flag b) kind is = absurd (none_some kind is)
kind_of (Int32 n) kind is = absurd (none_some kind is)
kind_of (Int64 n) kind is = subst IsKind (some_same (codes "Edm.Int64") kind is) (record { known = refl; text = IsUtf8-are_ascii (codes "Edm.Int64") refl })
kind_of (Moment tick) kind is = subst IsKind (some_same (codes "Edm.DateTime") kind is) (record { known = refl; text = IsUtf8-are_ascii (codes "Edm.DateTime") refl })
kind_of (Guid bytes) kind is = subst IsKind (some_same (codes "Edm.Guid") kind is) (record { known = refl; text = IsUtf8-are_ascii (codes "Edm.Guid") refl })
kind_of (Bytes bytes) kind is = subst IsKind (some_same (codes "Edm.Binary") kind is) (record { known = refl; text = IsUtf8-are_ascii (codes "Edm.Binary") refl })

annotation_text : (name : List ℕ) → IsUtf8 name → IsUtf8 (annotation_of name)
annotation_text name u = IsUtf8-append name (codes "@odata.type") u (IsUtf8-are_ascii (codes "@odata.type") refl)

abbrev its_members : Property → List Member
its_members = property_members whole_form

-- a property has been put with its annotation
record IsStep (body : Data) (p : Property) (ms : Members) (done : List Property) : Type 0 where
  built : IsBuilt body ms done [] []
  came : (next : List ℕ) → Before p.name next → Each (Came body (λ n. Before n next)) ms
  all : Each (Came body (λ n. ⊤)) ms

put_whole : (body : Data) (p : Property) (ms : Members) (done : List Property) → IsBuilt body ms done [] [] → Fits body p → Each (Came body (λ n. Before n p.name)) ms → Each (Came body (λ n. ⊤)) ms
    → IsStep body p (with_members ms (its_members p)) (done ++ p ∷ [])
unfolding with_members property_members annotation
put_whole body p ms done built fits before old = by_kind (annotated_type p.value) refl
  where
    k : List ℕ
    k = p.name

    first : Members
    first = put k (value_data p.value) ms

    fresh : Fresh k ms
    fresh = each_weaker (Came body (λ n. Before n k)) (λ l e. l ≢ k) (λ l e came. came_fresh body l e k fits.plain came) ms before

    here : IsBuilt body first (done ++ p ∷ []) [] []
    here = put_property body p ms done built fits before

    came_here : (next : List ℕ) → Before k next → Each (Came body (λ n. Before n next)) first
    came_here next later =
        each_put (Came body (λ n. Before n next)) k (value_data p.value) ms built.sorted fresh (record { name = k; plain = fits.plain; bound = later; is = inl refl })
        (each_weaker (Came body (λ n. Before n k)) (Came body (λ n. Before n next)) (λ l e came. came_weaker body (λ n. Before n k) (λ n. Before n next) (λ n q. before_both n k next q later) l e came) ms before)

    all_here : Each (Came body (λ n. ⊤)) first
    all_here = each_put (Came body (λ n. ⊤)) k (value_data p.value) ms built.sorted fresh (record { name = k; plain = fits.plain; bound = tt; is = inl refl }) old

    apart : Fresh (annotation_of k) first
    apart =
        each_put (λ l e. l ≢ annotation_of k) k (value_data p.value) ms built.sorted fresh (λ e. annotation_apart k k fits.plain.no_at (sym e))
        (each_weaker (Came body (λ n. Before n k)) (λ l e. l ≢ annotation_of k) (λ l e came. came_apart body l e k came) ms before)

    by_kind : (o : Option (List ℕ)) → annotated_type p.value ≡ o → IsStep body p (with_members first (option_to_list (option_map (λ kind. (annotation_of k, string kind)) o))) (done ++ p ∷ [])
    by_kind None e = record { built = here; came = came_here; all = all_here }
    by_kind (Some kind) e =
        let known = kind_of p.value kind e in
        let means = means_nothing body k kind known.known in
        record {
          built = put_nothing body (annotation_of k) (string kind) first (done ++ p ∷ []) [] [] here apart means (annotation_text k fits.name) known.text;
          came = λ next later. each_put (Came body (λ n. Before n next)) (annotation_of k) (string kind) first here.sorted apart
              (record { name = k; plain = fits.plain; bound = later; is = inr (refl, ap property_in means) }) (came_here next later);
          all = each_put (Came body (λ n. ⊤)) (annotation_of k) (string kind) first here.sorted apart
              (record { name = k; plain = fits.plain; bound = tt; is = inr (refl, ap property_in means) }) all_here;
        }

less_from : (o : Ordering) → is_lt o ≡ true → o ≡ Less
less_from Less e = refl
less_from Equal e = absurd (true≢false (sym e))
less_from Greater e = absurd (true≢false (sym e))

-- what holds of each property, one by one
one_by_one : (P : Property → Type 0) (ps : List Property) → All P ps → AllByRecursion P ps
one_by_one P [] all = tt
one_by_one P (p ∷ ps) all = (All-head P p ps all, one_by_one P ps (All-tail P p ps all))

came_later : (body : Data) (p : Property) (ms : Members) (ps : List Property) → ((next : List ℕ) → Before p.name next → Each (Came body (λ n. Before n next)) ms) → AllByRecursion (λ q. IsTrue (name_lt p q)) ps
    → AllByRecursion (λ q. Each (Came body (λ n. Before n q.name)) ms) ps
came_later body p ms [] came rising = tt
came_later body p ms (q ∷ ps) came rising = (came q.name (less_from (slice_cmp nat_cmp p.name q.name) rising.0), came_later body p ms ps came rising.1)

-- all properties have been put
put_all : (body : Data) (ps : List Property) (ms : Members) (done : List Property) → IsBuilt body ms done [] [] → AllByRecursion (Fits body) ps → IsRising ps
    → AllByRecursion (λ q. Each (Came body (λ n. Before n q.name)) ms) ps → Each (Came body (λ n. ⊤)) ms
    → IsBuilt body (with_members ms (flat_map its_members ps)) (done ++ ps) [] [] × Each (Came body (λ n. ⊤)) (with_members ms (flat_map its_members ps))
put_all body [] ms done built fits rising came all = (subst (λ (ps : List Property). IsBuilt body (with_members ms []) ps [] []) (sym (append-nil done)) (subst (λ (m : Members). IsBuilt body m done [] []) (sym (with_members-nil ms)) built), subst (Each (Came body (λ n. ⊤))) (sym (with_members-nil ms)) all)
put_all body (p ∷ ps) ms done built fits rising came all =
    let R = λ (a b : Property). IsTrue (name_lt a b) in
    let here = with_members ms (its_members p) in
    let step = put_whole body p ms done built fits.0 came.0 all in
    let later = came_later body p here ps step.came (one_by_one (R p) ps (AllPairs-head R p ps rising)) in
    let rest = put_all body ps here (done ++ p ∷ []) step.built fits.1 (AllPairs-tail R p ps rising) later step.all in
    let whole = sym (with_members-append ms (its_members p) (flat_map its_members ps)) in (
      subst (λ (m : Members). IsBuilt body m (done ++ p ∷ ps) [] []) whole (subst (λ (qs : List Property). IsBuilt body (with_members here (flat_map its_members ps)) qs [] []) (append_assoc done (p ∷ []) ps) rest.0),
      subst (Each (Came body (λ n. ⊤))) whole rest.1,
    )

-- ---- what is found in the whole body

put_apart : (q k : List ℕ) (d : Data) (ms : Members) (found : Option Data) → q ≢ k → get_member q ms ≡ found → get_member q (put k d ms) ≡ found
put_apart q k d ms found apart is = get_member-put_other q k d ms apart ∙ is

-- a property changes nothing at other names
one_apart : (r : List ℕ) (o : Property) (m : Members) (f : Option Data) → (r ≢ o.name) × (r ≢ annotation_of o.name) → get_member r m ≡ f → get_member r (with_members m (its_members o)) ≡ f
unfolding with_members property_members annotation
one_apart r o m f both here = by_kind (annotated_type o.value)
  where
    by_kind : (kind : Option (List ℕ)) → get_member r (with_members (put o.name (value_data o.value) m) (option_to_list (option_map (λ k. (annotation_of o.name, string k)) kind))) ≡ f
    by_kind None = put_apart r o.name (value_data o.value) m f both.0 here
    by_kind (Some k) = put_apart r (annotation_of o.name) (string k) (put o.name (value_data o.value) m) f both.1 (put_apart r o.name (value_data o.value) m f both.0 here)

-- other properties change nothing
others_apart : (q : List ℕ) (ps : List Property) (ms : Members) (found : Option Data) → AllByRecursion (λ p. (q ≢ p.name) × (q ≢ annotation_of p.name)) ps → get_member q ms ≡ found
    → get_member q (with_members ms (flat_map its_members ps)) ≡ found
others_apart q [] ms found apart is = ap (get_member q) (with_members-nil ms) ∙ is
others_apart q (p ∷ ps) ms found apart is =
    ap (get_member q) (with_members-append ms (its_members p) (flat_map its_members ps)) ∙ others_apart q ps (with_members ms (its_members p)) found apart.1 (one_apart q p ms found apart.0 is)

own_found : (p : Property) (ms : Members) → IsPlainName p.name → get_member (annotation_of p.name) ms ≡ None → get_member (annotation_of p.name) (with_members ms (its_members p)) ≡ option_map string (annotated_type p.value)
unfolding with_members property_members annotation
own_found p ms plain none = by_kind (annotated_type p.value)
  where
    by_kind : (kind : Option (List ℕ)) → get_member (annotation_of p.name) (with_members (put p.name (value_data p.value) ms) (option_to_list (option_map (λ k. (annotation_of p.name, string k)) kind))) ≡ option_map string kind
    by_kind None = put_apart (annotation_of p.name) p.name (value_data p.value) ms None (annotation_apart p.name p.name plain.no_at) none
    by_kind (Some k) = get_member-put (annotation_of p.name) (string k) (put p.name (value_data p.value) ms)

names_differ : (p q : Property) → IsTrue (name_lt p q) → p.name ≢ q.name
names_differ p q before e = not_before_itself q.name (subst (λ (n : List ℕ). Before n q.name) e (less_from (slice_cmp nat_cmp p.name q.name) before))

-- the annotation of each property is found
all_found : (ps : List Property) (ms : Members) → AllByRecursion (λ p. IsPlainName p.name) ps → IsRising ps → AllByRecursion (λ p. get_member (annotation_of p.name) ms ≡ None) ps
    → AllByRecursion (λ p. get_member (annotation_of p.name) (with_members ms (flat_map its_members ps)) ≡ option_map string (annotated_type p.value)) ps
all_found [] ms plain rising none = tt
all_found (p ∷ ps) ms plain rising none =
    let R = λ (a b : Property). IsTrue (name_lt a b) in
    let above = one_by_one (R p) ps (AllPairs-head R p ps rising) in
    let here = with_members ms (its_members p) in
    let whole = with_members-append ms (its_members p) (flat_map its_members ps) in (
      ap (get_member (annotation_of p.name)) whole ∙ others_apart (annotation_of p.name) ps here (option_map string (annotated_type p.value)) (apart_all ps above plain.1) (own_found p ms plain.0 none.0),
      moved ps (sym whole) (all_found ps here plain.1 (AllPairs-tail R p ps rising) (none_all ps above plain.1 none.1)),
    )
  where
    apart_all : (qs : List Property) → AllByRecursion (λ q. IsTrue (name_lt p q)) qs → AllByRecursion (λ q. IsPlainName q.name) qs → AllByRecursion (λ q. (annotation_of p.name ≢ q.name) × (annotation_of p.name ≢ annotation_of q.name)) qs
    apart_all [] above plains = tt
    apart_all (q ∷ qs) above plains =
        ((annotation_apart p.name q.name plains.0.no_at, λ e. names_differ p q above.0 (same_annotated p.name q.name e)), apart_all qs above.1 plains.1)

    none_all : (qs : List Property) → AllByRecursion (λ q. IsTrue (name_lt p q)) qs → AllByRecursion (λ q. IsPlainName q.name) qs → AllByRecursion (λ q. get_member (annotation_of q.name) ms ≡ None) qs
        → AllByRecursion (λ q. get_member (annotation_of q.name) (with_members ms (its_members p)) ≡ None) qs
    none_all [] above plains nones = tt
    none_all (q ∷ qs) above plains nones =
        (one_apart (annotation_of q.name) p ms None (annotation_apart q.name p.name plain.0.no_at, λ e. names_differ p q above.0 (sym (same_annotated q.name p.name e))) nones.0, none_all qs above.1 plains.1 nones.1)

    moved : {a b : Members} (qs : List Property) → a ≡ b → AllByRecursion (λ q. get_member (annotation_of q.name) a ≡ option_map string (annotated_type q.value)) qs
        → AllByRecursion (λ q. get_member (annotation_of q.name) b ≡ option_map string (annotated_type q.value)) qs
    moved {a} {b} qs same found = subst (λ (m : Members). AllByRecursion (λ q. get_member (annotation_of q.name) m ≡ option_map string (annotated_type q.value)) qs) same found

-- ---- the whole

literals_apart : (a b : List ℕ) → bytes_eq a b ≡ false → a ≢ b
literals_apart a b other e = true≢false (sym ((bytes_eq-Decides a b).1 e) ∙ other)

-- a name that no property has, and no `@`, is new
fresh_own : (body : Data) (own : List ℕ) (ms : Members) → has 64 own ≡ false → ((n : List ℕ) → IsPlainName n → n ≢ own) → Each (Came body (λ n. ⊤)) ms → Fresh own ms
fresh_own body own ms no_at other came = each_weaker (Came body (λ n. ⊤)) (λ l e. l ≢ own) (λ l e c. by_case l e c c.is) ms came
  where
    by_case : (l : List ℕ) (e : Data) → (c : Came body (λ n. ⊤) l e) → (l ≡ c.name) ⊎ ((l ≡ annotation_of c.name) × (properties_in body l e ≡ [])) → l ≢ own
    by_case l e c (inl same) is = other c.name c.plain (sym same ∙ is)
    by_case l e c (inr annotates) is = annotation_apart c.name own no_at (sym annotates.0 ∙ is)

own_apart : (own : List ℕ) → is_reserved own ≡ true → (n : List ℕ) → IsPlainName n → n ≢ own
own_apart own reserved n plain = not_own n own plain reserved

point_apart : (own : List ℕ) → has 46 own ≡ true → (n : List ℕ) → IsPlainName n → n ≢ own
point_apart own point n plain e = apart_by 46 own n point plain.no_point (sym e)

fresh_more : (own k : List ℕ) (d : Data) (ms : Members) → IsSorted ms → Fresh k ms → bytes_eq k own ≡ false → Fresh own ms → Fresh own (put k d ms)
fresh_more own k d ms sorted fresh other old = each_put (λ l e. l ≢ own) k d ms sorted fresh (literals_apart k own other) old

-- what is kept is a version
pub kept_version : (row : RowView) → IsKept row → IsVersion (version_of row)
kept_version row kept = record {
  pk_units = row.entity.pk_units;
  rk_units = row.entity.rk_units;
  pk = kept.key.pk;
  rk = kept.key.rk;
  entity = kept.entity;
  properties = kept.properties;
}

module _ (account name : List ℕ) (version : VersionView) where
  of_properties : Members
  of_properties = with_members no_members (flat_map its_members version.properties)

  with_pk : Members
  with_pk = put (codes "PartitionKey") (string version.pk) of_properties

  with_rk : Members
  with_rk = put (codes "RowKey") (string version.rk) with_pk

  with_tick : Members
  with_tick = put (codes "Timestamp") (string (text_of_moment version.tick)) with_rk

  with_etag : Members
  with_etag = put (codes "odata.etag") (string (text_of_etag version.tick)) with_tick

  address : List ℕ
  address = metadata_address account name ++ codes "/@Element"

  all_members : Members
  all_members = put (codes "odata.metadata") (string address) with_etag

  body : Data
  body = object all_members

  data_is : entity_data account name whole_form version ≡ body
  unfolding of_properties with_pk with_rk with_tick with_etag address all_members body entity_data object_of entity_members key_members with_members
  data_is =
      let F = flat_map its_members version.properties in
      let K = key_members whole_form version in
      let E = etag whole_form version.tick in
      let M = metadata whole_form (metadata_address account name ++ codes "/@Element") in
      ap object (with_members-append no_members ((F ++ K) ++ E) M
      ∙ (ap (λ (m : Members). with_members m M) (with_members-append no_members (F ++ K) E ∙ ap (λ (m : Members). with_members m E) (with_members-append no_members F K))))

  found_last : (q : List ℕ) (found : Option Data) → has 64 q ≡ true → get_member q of_properties ≡ found → get q body ≡ found
  unfolding with_pk with_rk with_tick with_etag all_members body
  found_last q found at is =
      put_apart q (codes "odata.metadata") (string address) with_etag found (apart_by 64 q (codes "odata.metadata") at refl)
      (put_apart q (codes "odata.etag") (string (text_of_etag version.tick)) with_tick found (apart_by 64 q (codes "odata.etag") at refl)
      (put_apart q (codes "Timestamp") (string (text_of_moment version.tick)) with_rk found (apart_by 64 q (codes "Timestamp") at refl)
      (put_apart q (codes "RowKey") (string version.rk) with_pk found (apart_by 64 q (codes "RowKey") at refl)
      (put_apart q (codes "PartitionKey") (string version.pk) of_properties found (apart_by 64 q (codes "PartitionKey") at refl) is))))

  module _ (kept : IsVersion version) (account_text : IsUtf8 account) (name_text : IsUtf8 name) where
    properties : List Property
    properties = version.properties

    allowed : All (λ p. property_refusal p ≡ None) properties
    unfolding entity_refusal properties
    allowed = each_allowed properties (first_none (first_refusal properties) _ kept.entity.allowed)
      where
        first_none : (r later : Option EdmRefused) → option_or r later ≡ None → r ≡ None
        first_none None later e = refl
        first_none (Some why) later e = absurd (cc)

    all_plain : (ps : List Property) → All IsProperty ps → All (λ p. property_refusal p ≡ None) ps → All (λ p. IsFalse (is_reserved p.name)) ps → AllByRecursion (λ p. IsPlainName p.name) ps
    all_plain [] real none other = tt
    all_plain (p ∷ ps) real none other = (
      plain_name p (All-head IsProperty p ps real).name (All-head (λ q. property_refusal q ≡ None) p ps none) (All-head (λ q. IsFalse (is_reserved q.name)) p ps other),
      all_plain ps (All-tail IsProperty p ps real) (All-tail (λ q. property_refusal q ≡ None) p ps none) (All-tail (λ q. IsFalse (is_reserved q.name)) p ps other),
    )

    plain : AllByRecursion (λ p. IsPlainName p.name) version.properties
    unfolding properties
    plain = all_plain version.properties kept.properties allowed kept.entity.unreserved

    none_there : (ps : List Property) → AllByRecursion (λ p. get_member (annotation_of p.name) no_members ≡ None) ps
    none_there [] = tt
    none_there (p ∷ ps) = (refl, none_there ps)

    found : AllByRecursion (λ p. get_member (annotation_of p.name) of_properties ≡ option_map string (annotated_type p.value)) version.properties
    unfolding of_properties
    found = all_found version.properties no_members plain kept.entity.rising (none_there version.properties)

    fits_all : (ps : List Property) → AllByRecursion (λ p. IsPlainName p.name) ps → AllByRecursion IsProperty ps → AllByRecursion (λ p. IsInTime p.value) ps → AllByRecursion (λ p. get_member (annotation_of p.name) of_properties ≡ option_map string (annotated_type p.value)) ps
        → AllByRecursion (Fits body) ps
    fits_all [] plains real timely there = tt
    fits_all (p ∷ ps) plains real timely there =
        (record { plain = plains.0; name = real.0.name; value = real.0.value; in_time = timely.0; found = found_last (annotation_of p.name) (option_map string (annotated_type p.value)) (annotation_has_at p.name) there.0 }, fits_all ps plains.1 real.1 timely.1 there.1)

    fits : AllByRecursion (Fits body) version.properties
    fits = fits_all version.properties plain (one_by_one IsProperty version.properties kept.properties) (one_by_one (λ p. IsInTime p.value) version.properties kept.entity.in_time) found

    nothing_came : (ps : List Property) → AllByRecursion (λ q. Each (Came body (λ n. Before n q.name)) no_members) ps
    nothing_came [] = tt
    nothing_came (p ∷ ps) = (tt, nothing_came ps)

    first_built : IsBuilt body of_properties version.properties [] [] × Each (Came body (λ n. ⊤)) of_properties
    unfolding of_properties
    first_built =
        put_all body version.properties no_members [] (record { sorted = tt; atoms = tt; fine = tt; properties = refl; pks_are = refl; rks_are = refl }) fits kept.entity.rising (nothing_came version.properties) tt

    -- no property annotates a key
    no_key_type : (own : List ℕ) → is_reserved own ≡ true → has 64 own ≡ false → get (annotation_of own) body ≡ None
    unfolding of_properties
    no_key_type own reserved no_at =
        found_last (annotation_of own) None (annotation_has_at own) (others_apart (annotation_of own) version.properties no_members None (apart_all version.properties plain) refl)
      where
        apart_all : (ps : List Property) → AllByRecursion (λ p. IsPlainName p.name) ps → AllByRecursion (λ p. (annotation_of own ≢ p.name) × (annotation_of own ≢ annotation_of p.name)) ps
        apart_all [] plains = tt
        apart_all (p ∷ ps) plains = ((annotation_apart own p.name plains.0.no_at, λ e. not_own p.name own plains.0 reserved (sym (same_annotated own p.name e))), apart_all ps plains.1)

    literal : (text : List ℕ) → are_ascii text ≡ true → IsUtf8 text
    literal text is = IsUtf8-are_ascii text is

    fresh_at : (own : List ℕ) → has 64 own ≡ false → ((n : List ℕ) → IsPlainName n → n ≢ own) → Fresh own of_properties
    fresh_at own no_at other = fresh_own body own of_properties no_at other first_built.1

    address_text : IsUtf8 address
    unfolding address metadata_address
    address_text =
        IsUtf8-append (codes "http://localhost/" ++ account ++ codes "/$metadata#" ++ name) (codes "/@Element")
        (IsUtf8-append (codes "http://localhost/" ++ account ++ codes "/$metadata#") name
        (IsUtf8-append (codes "http://localhost/" ++ account) (codes "/$metadata#") (IsUtf8-append (codes "http://localhost/") account (literal (codes "http://localhost/") refl) account_text) (literal (codes "/$metadata#") refl)) name_text) (literal (codes "/@Element") refl)

    whole : IsBuilt body all_members version.properties (version.pk ∷ []) (version.rk ∷ [])
    unfolding with_pk with_rk with_tick with_etag all_members
    whole =
        let PK = codes "PartitionKey" in
        let RK = codes "RowKey" in
        let T = codes "Timestamp" in
        let E = codes "odata.etag" in
        let M = codes "odata.metadata" in
        let pk = fresh_at PK refl (own_apart PK refl) in
        let a = put_pk body PK (string version.pk) version.pk of_properties version.properties [] first_built.0 pk (means_pk body version.pk (no_key_type PK refl refl) kept.pk.allowed) (literal PK refl) kept.pk.utf8 in
        let more_a = λ (own : List ℕ) (other : bytes_eq PK own ≡ false) (f : Fresh own of_properties). fresh_more own PK (string version.pk) of_properties first_built.0.sorted pk other f in
        let rk = more_a RK refl (fresh_at RK refl (own_apart RK refl)) in
        let b = put_rk body RK (string version.rk) version.rk with_pk version.properties (version.pk ∷ []) a rk (means_rk body version.rk (no_key_type RK refl refl) kept.rk.allowed) (literal RK refl) kept.rk.utf8 in
        let more_b = λ (own : List ℕ) (first : bytes_eq PK own ≡ false) (other : bytes_eq RK own ≡ false) (f : Fresh own of_properties). fresh_more own RK (string version.rk) with_pk a.sorted rk other (more_a own first f) in
        let t = more_b T refl refl (fresh_at T refl (own_apart T refl)) in
        let c = put_nothing body T (string (text_of_moment version.tick)) with_rk version.properties (version.pk ∷ []) (version.rk ∷ []) b t (means_tick body (string (text_of_moment version.tick))) (literal T refl) (moment_text version.tick) in
        let more_c = λ (own : List ℕ) (first : bytes_eq PK own ≡ false) (second : bytes_eq RK own ≡ false) (other : bytes_eq T own ≡ false) (f : Fresh own of_properties). fresh_more own T (string (text_of_moment version.tick)) with_rk b.sorted t other (more_b own first second f) in
        let e = more_c E refl refl refl (fresh_at E refl (point_apart E refl)) in
        let d = put_nothing body E (string (text_of_etag version.tick)) with_tick version.properties (version.pk ∷ []) (version.rk ∷ []) c e (means_etag body (string (text_of_etag version.tick))) (literal E refl) (etag_text version.tick) in
        let m = fresh_more M E (string (text_of_etag version.tick)) with_tick c.sorted e refl (more_c M refl refl refl (fresh_at M refl (point_apart M refl))) in
        put_nothing body M (string address) with_etag version.properties (version.pk ∷ []) (version.rk ∷ []) d m (means_metadata body (string address)) (literal M refl) address_text

    read_whole : json_in (compact_text body) ≡ Some body
    unfolding json_in body
    read_whole = rw (is_utf8-from_IsUtf8 (compact_text (object all_members)) (flat_text all_members whole.atoms)) (flat_read all_members whole.sorted whole.atoms)

    given : entity_in body all_members ≡ Ok (record { pk = Some version.pk; rk = Some version.rk; properties = version.properties })
    given =
        at_first body all_members
        ∙ (all_collected body no_entity all_members whole.fine
        ∙ (ap (λ (keys : List (List ℕ)). Ok (collected no_entity keys (gathered (rks_in body) all_members) (gathered (properties_in body) all_members))) whole.pks_are
        ∙ (ap (λ (keys : List (List ℕ)). Ok (collected no_entity (version.pk ∷ []) keys (gathered (properties_in body) all_members))) whole.rks_are
        ∙ ap (λ (ps : List Property). Ok (collected no_entity (version.pk ∷ []) (version.rk ∷ []) ps)) whole.properties)))

    pub read_back : IsReadBack account name version
    unfolding entity_body entity_json body
    read_back =
        ap (λ (d : Data). of_object (λ ms. entity_in (object ms) ms) (json_in (compact_text d))) data_is
        ∙ (ap (of_object (λ ms. entity_in (object ms) ms)) read_whole ∙ given)
