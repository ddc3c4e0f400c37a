-- The requests that messages come to, and the forms of their parts.
use Rattle.std.specs.Prelude.{◌≡◌, ℕ, List, [], ◌∷◌, Bool, true, false, ⊤}
use Rattle.tab_ops.specs.Groups.{ItemView}
use Rattle.tab_history.specs.declared.asks.Ask.{Ask}
use Rattle.tab_history.specs.declared.asks.Ask.TheVariants as ask
use Rattle.tab_json.specs.declared.entities.JsonForm.{JsonForm}
use Rattle.tab_service.specs.Requests.{is_insert, is_delete}
use Rattle.tab_service.specs.declared.forms.Form.{Form}
use Rattle.tab_service.specs.declared.forms.PartForm.{PartForm}
use Rattle.tab_service.specs.declared.forms.Prefer.{Prefer}
use Rattle.tab_service.specs.declared.forms.Prefer.TheVariants.{Unsaid}
use Rattle.tab_service.specs.declared.forms.Request.{Request}

-- ---- parts

-- a preference stands with an insert alone
abbrev pub SuitsInsert : Bool → Prefer → Type 0
SuitsInsert true prefer = ⊤
SuitsInsert false prefer = prefer ≡ Unsaid

-- the part is the one of this operation
pub record IsPartOf (item : ItemView) (part : PartForm) : Type 0 where
  pub insert : part.insert ≡ is_insert item.op
  pub delete : part.delete ≡ is_delete item.op
  pub prefer : SuitsInsert part.insert part.prefer

-- the parts are those of the operations, in their order
abbrev pub ArePartsOf : List ItemView → List PartForm → Type 0
ArePartsOf [] [] = ⊤
ArePartsOf [] (part ∷ parts) = ⊥
ArePartsOf (item ∷ items) [] = ⊥
ArePartsOf (item ∷ items) (part ∷ parts) = IsPartOf item part × ArePartsOf items parts

-- the part is that of no operation
pub record IsPlain (part : PartForm) : Type 0 where
  pub insert : part.insert ≡ false
  pub delete : part.delete ≡ false

-- and has no preference
pub record IsUnsaid (part : PartForm) : Type 0 where
  pub plain : IsPlain part
  pub prefer : part.prefer ≡ Unsaid

-- ---- forms

-- the part is the only one of such an ask, whose change is of one row
abbrev pub IsSolePart : Ask → PartForm → Type 0
IsSolePart (ask.Create name) part = IsPlain part
IsSolePart (ask.Drop name) part = IsUnsaid part
IsSolePart (ask.Tables after top) part = IsUnsaid part
IsSolePart (ask.Get name pk rk) part = IsUnsaid part
IsSolePart (ask.Page name options) part = IsUnsaid part
IsSolePart (ask.Change group) part = ArePartsOf group (part ∷ [])

-- the part is the only one, in the format of the request
abbrev pub HasSolePart : Ask → JsonForm → List PartForm → Type 0
HasSolePart ask json [] = ⊥
HasSolePart ask json (part ∷ []) = IsSolePart ask part × (part.minimal ≡ json.minimal)
HasSolePart ask json (part ∷ other ∷ more) = ⊥

-- the ask is for a change, and the parts are those of its operations
abbrev pub HasPartsOfChange : Ask → List PartForm → Type 0
HasPartsOfChange (ask.Create name) parts = ⊥
HasPartsOfChange (ask.Drop name) parts = ⊥
HasPartsOfChange (ask.Tables after top) parts = ⊥
HasPartsOfChange (ask.Get name pk rk) parts = ⊥
HasPartsOfChange (ask.Page name options) parts = ⊥
HasPartsOfChange (ask.Change group) parts = ArePartsOf group parts

-- a batch is a change with a part for each operation, and every other request has one part
abbrev pub HasParts : Bool → Ask → JsonForm → List PartForm → Type 0
HasParts true ask json parts = HasPartsOfChange ask parts
HasParts false ask json parts = HasSolePart ask json parts

-- the form is one for such an ask
abbrev pub IsFormOf : Ask → Form → Type 0
IsFormOf ask form = HasParts form.batch ask form.json form.parts

-- the request is of this account, and its form is one for what it asks
pub record IsInForm (account : List ℕ) (request : Request) : Type 0 where
  pub of_account : request.form.account ≡ account
  pub suits : IsFormOf request.ask request.form
