-- The stores of a service whose memory holds a course, and whose disks are sound of what is held.
use Rattle.std.proofs.Common.{◌≡◌, ℕ, zero, suc, List, Option, Some, None, refl, sym, subst, ◌∙◌, All}
use Rattle.std.specs.Prelude.{slice_get, option_map}
use Rattle.std.proofs.lemmas.Option.{slice_get-map, slice_get_within, get_or_from_slice_get}
use Rattle.tab_outside.specs.Disks.{Watch}
use Rattle.tab_outside.specs.Pairs.{Now}
use Rattle.tab_outside.proofs.Moments.{now_weaker}
use Rattle.tab_codec.specs.declared.frames.Frame.{Frame}
use Rattle.tab_seats.specs.declared.views.Stroke.{Stroke}
use Rattle.tab_journal.specs.Areas.{Spells}
use Rattle.tab_journal.specs.Stores.{area_a, area_b}
use Rattle.tab_journal.specs.Keeping.{Sense, KeptView, Means, IsSound}
use Rattle.tab_range.specs.declared.commands.Told.{Told}
use Rattle.tab_server.specs.Contents.{ranges_sense}
use Rattle.tab_server.specs.Serving.{ServerView}
use Rattle.tab_master.specs.Names.{names_sense}
use Rattle.tab_master.specs.Maps.{map_sense}
use Rattle.tab_core.specs.Courses.{Course}
use Rattle.tab_core.specs.Points.{MapPoint, NamesPoint, ServerPoint, HoldStores}
use Rattle.tab_core.specs.Cores.{CoreView, stores_in, KeepsServer, KeepsCourse, AreSound}
use Rattle.tab_core.proofs.Pairs.{some_is}
use Rattle.tab_core.proofs.Remembering.{map_point, names_point, server_point}

-- a store whose frames meet a point where they mean what is held meets it on its disks
store_now : {D C S : Type 0} (w : Watch D) (sense : Sense C S) (kept : KeptView D C S) (number : ℕ) (P : List Frame → Type 0) → IsSound w sense kept → kept.store.number ≡ number
    → ((frames : List Frame) → Means sense kept.held kept.doubt frames → P frames) → Now w (Spells sense.kind number) P (area_a kept.store) (area_b kept.store)
store_now w sense kept number P sound is to =
    subst (λ (n : ℕ). Now w (Spells sense.kind n) P (area_a kept.store) (area_b kept.store)) is
    (subst (λ (k : ℕ). Now w (Spells k kept.store.number) P (area_a kept.store) (area_b kept.store)) sound.kind
    (now_weaker w (Spells kept.store.kind kept.store.number) (Means sense kept.held kept.doubt) P (area_a kept.store) (area_b kept.store) to sound.now))

-- and so where the two are given as a pair
pair_now : {D : Type 0} (w : Watch D) (kind number : ℕ) (P : List Frame → Type 0) (a b : D) (pair : D × D) → Some (a, b) ≡ Some pair → Now w (Spells kind number) P a b → Now w (Spells kind number) P pair.0 pair.1
pair_now w kind number P a b pair is now = subst (λ (p : _ × _). Now w (Spells kind number) P p.0 p.1) (sym (some_is (a, b) pair is)) now

-- ---- a server

sound_at : {X : Type 0} (P : X → Type 0) (xs : List X) (k : ℕ) (x : X) → All P xs → slice_get xs k ≡ Some x → P x
sound_at P xs k x all here = subst P (get_or_from_slice_get xs k x x here) (all k x (slice_get_within xs k x here))

server_now : {D T : Type 0} (drawn : T → Stroke Told → T → Type 0) (ready : T → ℕ → Type 0) (kin : T → T → Type 0) (w : Watch D) (course : Course) (number : ℕ) (server : ServerView D T)
    → KeepsServer course number server → IsSound w (ranges_sense drawn ready kin) server → Now w (Spells 2 number) (ServerPoint course number) (area_a server.store) (area_b server.store)
server_now drawn ready kin w course number server keeps sound =
    store_now w (ranges_sense drawn ready kin) server number (ServerPoint course number) sound keeps.number_is
    (λ frames means. server_point drawn ready kin course number server frames keeps means)

-- the server of a number is there where its disks are
server_there : {D T : Type 0} (drawn : T → Stroke Told → T → Type 0) (ready : T → ℕ → Type 0) (kin : T → T → Type 0) (w : Watch D) (course : Course) (core : CoreView D T) (number : ℕ) (pair : D × D)
    → KeepsCourse course core → AreSound drawn ready kin w core → (o : Option (ServerView D T)) → slice_get core.servers number ≡ o
    → option_map (λ server. (area_a server.store, area_b server.store)) o ≡ Some pair → Now w (Spells 2 number) (ServerPoint course number) pair.0 pair.1
server_there drawn ready kin w course core number pair keeps sound None here is = absurd cc
server_there drawn ready kin w course core number pair keeps sound (Some server) here is =
    pair_now w 2 number (ServerPoint course number) (area_a server.store) (area_b server.store) pair is
    (server_now drawn ready kin w course number server (keeps.servers number server here)
    (sound_at (λ (one : ServerView _ _). IsSound w (ranges_sense drawn ready kin) one) core.servers number server sound.servers here))

-- ---- all

-- each store meets its point
pub core_holds : {D T : Type 0} (drawn : T → Stroke Told → T → Type 0) (ready : T → ℕ → Type 0) (kin : T → T → Type 0) (w : Watch D) (course : Course) (core : CoreView D T)
    → KeepsCourse course core → AreSound drawn ready kin w core → HoldStores w course (stores_in core)
core_holds drawn ready kin w course core keeps sound zero pair is =
    pair_now w 0 0 (MapPoint course) (area_a core.map.store) (area_b core.map.store) pair is
    (store_now w map_sense core.map 0 (MapPoint course) sound.map keeps.map.number
    (λ frames means. map_point course core.map.held core.map.doubt frames keeps.map.told keeps.map.in_doubt means))
core_holds drawn ready kin w course core keeps sound (suc zero) pair is =
    pair_now w 1 0 (NamesPoint course) (area_a core.names.store) (area_b core.names.store) pair is
    (store_now w names_sense core.names 0 (NamesPoint course) sound.names keeps.names.number
    (λ frames means. names_point course core.names.held core.names.doubt frames keeps.names.told keeps.names.in_doubt means))
core_holds drawn ready kin w course core keeps sound (suc (suc number)) pair is =
    server_there drawn ready kin w course core number pair keeps sound (slice_get core.servers number) refl
    (sym (slice_get-map (λ (server : ServerView _ _). (area_a server.store, area_b server.store)) core.servers number) ∙ is)
