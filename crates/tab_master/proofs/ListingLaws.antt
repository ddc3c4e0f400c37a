-- Tables in the order in which frames told of them: one frame more, and what the frames stand for.
use Rattle.std.proofs.Common.{◌≡◌, ℕ, ◌+◌, ◌<◌, List, [], ◌∷◌, ◌++◌, take, length, get_or, Option, Some, None, refl, sym, ap, ◌∙◌}
use Rattle.std.proofs.lemmas.List.{map-append, take_more}
use Rattle.tab_codec.specs.declared.frames.Frame.{Frame}
use Rattle.tab_codec.specs.declared.frames.Frame.TheVariants as frames
use Rattle.tab_journal.specs.Told.{NamesTold, names_after}
use Rattle.tab_journal.specs.Fitting.{told_first, told_by, after, after_all}
use Rattle.tab_journal.specs.declared.fitting.Told.{Told}
use Rattle.tab_journal.specs.declared.fitting.Told.TheVariants as told
use Rattle.tab_journal.proofs.Fronts.{after_more}
use Rattle.tab_master.specs.Spelled.{SpelledNames, named, names_kind}
use Rattle.std.specs.Prelude.{option_map}
use Rattle.tab_master.specs.Ordered.{in_order}
use Rattle.tab_master.specs.Spelled.{by_name, names_of, spelled_names, AreNames}
use Rattle.tab_master.specs.Names.{NamesStand}
use Rattle.tab_master.specs.Listing.{listing_after, listing_of}
use Rattle.tab_master.proofs.SpellingLaws.{filter-named}

-- the names so far
abbrev pub of_names : Option NamesTold → Told
of_names held = told.Names held

names_more : (held : Option NamesTold) (frame : Frame) → listing_of (told.Names (names_after held frame)) ≡ listing_after (listing_of (told.Names held)) frame
unfolding names_after
names_more None (frames.Names next names) = refl
names_more None (frames.Begin range span tick) = refl
names_more None (frames.Rows range rows) = refl
names_more None (frames.Whole range tick) = refl
names_more None (frames.Change range tick changes) = refl
names_more None (frames.Map next plan rows) = refl
names_more None (frames.Commit plan next olds news) = refl
names_more None (frames.Create table name) = refl
names_more None (frames.Drop table) = refl
names_more (Some held) (frames.Names next names) = ap (λ l. Some (record { next_table = held.next_table; names = l })) (map-append named held.names names)
names_more (Some held) (frames.Begin range span tick) = refl
names_more (Some held) (frames.Rows range rows) = refl
names_more (Some held) (frames.Whole range tick) = refl
names_more (Some held) (frames.Change range tick changes) = refl
names_more (Some held) (frames.Map next plan rows) = refl
names_more (Some held) (frames.Commit plan next olds news) = refl
names_more (Some held) (frames.Create table name) = ap (λ l. Some (record { next_table = table + 1; names = l })) (map-append named held.names ((table, name) ∷ []))
names_more (Some held) (frames.Drop table) = ap (λ l. Some (record { next_table = held.next_table; names = l })) (filter-named table held.names)

-- frames of the names tell of names alone
pub are_names : (held : Option NamesTold) (list : List Frame) → (after : Option NamesTold) × (after_all (told.Names held) list ≡ told.Names after)
unfolding after_all after
are_names held [] = (held, refl)
are_names held (frame ∷ list) = are_names (names_after held frame) list

told_more : (so_far : Told) (held : Option NamesTold) (frame : Frame) → so_far ≡ told.Names held → listing_of (after so_far frame) ≡ listing_after (listing_of so_far) frame
unfolding after
told_more so_far held frame is = rw is (names_more held frame)

pub first_is_names : told_first names_kind ≡ told.Names None
unfolding told_first
first_is_names = refl

pub frame_more : (list : List Frame) (frame : Frame) → listing_of (told_by names_kind (list ++ frame ∷ [])) ≡ listing_after (listing_of (told_by names_kind list)) frame
frame_more list frame =
    let are = are_names None list in
    ap listing_of (after_more (told_first names_kind) list frame)
    ∙ told_more (told_by names_kind list) are.0 frame (ap (λ t. after_all t list) first_is_names ∙ are.1)

pub nothing_told : listing_of (told_by names_kind []) ≡ None
unfolding after_all told_first
nothing_told = refl

-- a step of a loop over frames
pub next_told : (list : List Frame) (i : ℕ) (frame : Frame) (so_far next : Option SpelledNames) → i < length list → frame ≡ get_or list i frame → so_far ≡ listing_of (told_by names_kind (take i list))
    → next ≡ listing_after so_far frame → next ≡ listing_of (told_by names_kind (take (i + 1) list))
next_told list i frame so_far next less is before more =
    more ∙ (ap (λ s. listing_after s frame) before ∙ (sym (frame_more (take i list) frame)
    ∙ ap (λ l. listing_of (told_by names_kind l)) (ap (λ f. take i list ++ f ∷ []) is ∙ sym (take_more list i frame less))))

-- ---- what was told stands for names

ordered : SpelledNames → SpelledNames
ordered listing = record { next_table = listing.next_table; names = in_order by_name listing.names }

names_listed : (so_far : Told) → names_of so_far ≡ option_map ordered (listing_of so_far)
unfolding ordered
names_listed (told.Names (Some held)) = refl
names_listed (told.Names None) = refl
names_listed (told.Map m) = refl
names_listed (told.Server ranges) = refl
names_listed told.Nothing = refl

spelled_listed : (list : List Frame) (listing : Option SpelledNames) → listing ≡ listing_of (told_by names_kind list) → spelled_names list ≡ option_map ordered listing
unfolding spelled_names
spelled_listed list listing is = names_listed (told_by names_kind list) ∙ ap (option_map ordered) (sym is)

pub listing_stands : (list : List Frame) (listing held : SpelledNames) → Some listing ≡ listing_of (told_by names_kind list) → (listing.next_table ≡ held.next_table) × (in_order by_name listing.names ≡ held.names) → AreNames held
    → NamesStand list held
unfolding ordered
listing_stands list listing held is same are = record {
  spelled = spelled_listed list (Some listing) is ∙ (ap (λ n. Some (record { next_table = n; names = in_order by_name listing.names })) same.0 ∙ ap (λ names. Some (record { next_table = held.next_table; names = names })) same.1);
  orderly = are;
}

same_some : {A : Type 0} (a b : A) → Some a ≡ Some b → a ≡ b
same_some a b same = cc

pub stands_listed : (list : List Frame) (listing held : SpelledNames) → Some listing ≡ listing_of (told_by names_kind list) → NamesStand list held → (listing.next_table ≡ held.next_table) × (in_order by_name listing.names ≡ held.names)
unfolding ordered
stands_listed list listing held is stand =
    let same : ordered listing ≡ held = same_some (ordered listing) held (sym (spelled_listed list (Some listing) is) ∙ stand.spelled) in
    (ap (λ (it : SpelledNames). it.next_table) same, ap (λ (it : SpelledNames). it.names) same)

pub nothing_stands : (list : List Frame) (held : SpelledNames) → None ≡ listing_of (told_by names_kind list) → NamesStand list held → ⊥
nothing_stands list held is stand = let none : None ≡ Some held = sym (spelled_listed list None is) ∙ stand.spelled in absurd (none_is_not held none)
  where
    none_is_not : (it : SpelledNames) → None ≡ Some it → ⊥
    none_is_not it same = cc
