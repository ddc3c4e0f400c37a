-- JSON objects by their members.
use Rattle.std.specs.Prelude.{ℕ, List, fold}
use Rattle.serde_json.specs.Data.{Data, Members, object, no_members, put}

-- a member of an object: its name and its value
abbrev pub Member : Type 0
Member = List ℕ × Data

-- the members with these ones put to them, each in the byte order of names
unfoldable pub with_members : Members → List Member → Members
with_members members more = fold (λ ms m. put m.0 m.1 ms) members more

-- the object with these members
unfoldable pub object_of : List Member → Data
object_of members = object (with_members no_members members)
