-- Why the text of exchanges is a function of what they read and of the entries that they take.
use Rattle.std.proofs.Common.{◌≡◌, ℕ, List, [], ◌∷◌, ◌++◌, length, refl, sym, ap, ◌∙◌, subst, arith, inl, inr, length-append, append_assoc, Some}
use Rattle.tab_history.specs.declared.entries.Entry.{Entry}
use Rattle.tab_history.specs.declared.entries.Entry.TheVariants as entry
use Rattle.tab_history.specs.declared.asks.Reply.{Reply}
use Rattle.tab_service.specs.declared.forms.Request.{Request}
use Rattle.tab_service.specs.Replies.{reply_text}
use Rattle.tab_auth.specs.declared.signatures.Keys.{Keys}
use Rattle.tab_service.specs.declared.requests.decide.Decided.{Decided}
use Rattle.tab_service.specs.declared.requests.decide.Decided.TheVariants.{Go, No}
use Rattle.tab_drive.specs.Schedule.{spelling}
use Rattle.tab_drive.specs.RunStates.{RunState, Exchange, Happens, Answers, Refuses, Takes, StandsAlone, reply_of, reply_outcome, Follows, state_after, bytes_of, entries_of, text_of}
use Rattle.tab_drive.specs.declared.schedule.Scheduled.{Scheduled}
use Rattle.tab_drive.specs.declared.schedule.Scheduled.TheVariants.{Now, Call}
use Rattle.tab_drive.proofs.Decisions.{OneDecision}
use Rattle.tab_drive.proofs.Spellings.{one_event, spelling_some}

-- two outcomes of an event that stand at the front of one history: their entries, their texts, and the history behind them are the same
abbrev AreOne : List Entry → List Entry → List Entry → List Entry → List ℕ → List ℕ → Type 0
AreOne entries others later more text other = (entries ≡ others) × (text ≡ other) × (later ≡ more)

-- ---- the front of the history that a request takes

-- answers that stand at one place of one history
abbrev SameAnswer : List Entry → List Entry → List Entry → List Entry → Entry → Entry → Type 0
SameAnswer entries others later more answer other = (entries ≡ others) × (answer ≡ other) × (later ≡ more)

first_is : {A : Type 0} (x y : A) (xs ys : List A) → x ∷ xs ≡ y ∷ ys → x ≡ y
first_is x y xs ys is = cc

rest_is : {A : Type 0} (x y : A) (xs ys : List A) → x ∷ xs ≡ y ∷ ys → xs ≡ ys
rest_is x y xs ys is = cc

found_or_alone : (number : ℕ) (name : List ℕ) (table : ℕ) (answer : Entry) → StandsAlone answer → entry.Resolve number name (Some table) ≡ answer → ⊥
found_or_alone number name table answer alone is = subst StandsAlone (sym is) alone

looked_up : (look other_look answer other_answer : Entry) (entries others later more : List Entry) → entries ≡ look ∷ answer ∷ [] → others ≡ other_look ∷ other_answer ∷ [] → entries ++ later ≡ others ++ more
    → SameAnswer entries others later more answer other_answer
looked_up look other_look answer other_answer entries others later more is other_is same =
    let all : look ∷ answer ∷ later ≡ other_look ∷ other_answer ∷ more = ap (λ (e : List Entry). e ++ later) (sym is) ∙ same ∙ ap (λ (e : List Entry). e ++ more) other_is in
    let first = first_is look other_look (answer ∷ later) (other_answer ∷ more) all in
    let tail = rest_is look other_look (answer ∷ later) (other_answer ∷ more) all in
    let second = first_is answer other_answer later more tail in
    (is ∙ (let both : look ∷ answer ∷ [] ≡ other_look ∷ other_answer ∷ [] = cc in both) ∙ sym other_is, second, rest_is answer other_answer later more tail)

by_itself : (answer other_answer : Entry) (entries others later more : List Entry) → entries ≡ answer ∷ [] → others ≡ other_answer ∷ [] → entries ++ later ≡ others ++ more
    → SameAnswer entries others later more answer other_answer
by_itself answer other_answer entries others later more is other_is same =
    let all : answer ∷ later ≡ other_answer ∷ more = ap (λ (e : List Entry). e ++ later) (sym is) ∙ same ∙ ap (λ (e : List Entry). e ++ more) other_is in
    let first = first_is answer other_answer later more all in
    (is ∙ ap (λ (a : Entry). a ∷ []) first ∙ sym other_is, first, rest_is answer other_answer later more all)

apart : (number : ℕ) (name : List ℕ) (table : ℕ) (answer other_answer : Entry) (entries others later more : List Entry) → entries ≡ entry.Resolve number name (Some table) ∷ answer ∷ [] → others ≡ other_answer ∷ []
    → StandsAlone other_answer → entries ++ later ≡ others ++ more → ⊥
apart number name table answer other_answer entries others later more is other_is alone same =
    let all : entry.Resolve number name (Some table) ∷ answer ∷ later ≡ other_answer ∷ more = ap (λ (e : List Entry). e ++ later) (sym is) ∙ same ∙ ap (λ (e : List Entry). e ++ more) other_is in
    found_or_alone number name table other_answer alone (first_is (entry.Resolve number name (Some table)) other_answer (answer ∷ later) more all)

-- a request takes one front of a history: its first entry says which
one_front : (state : RunState) (request : Request) (answer other_answer : Entry) (entries others later more : List Entry) → Takes state request.ask answer entries → Takes state request.ask other_answer others
    → entries ++ later ≡ others ++ more → SameAnswer entries others later more answer other_answer
one_front state request answer other_answer entries others later more (inl took) (inl other_took) same =
    looked_up (entry.Resolve state.number took.name (Some took.table)) (entry.Resolve state.number other_took.name (Some other_took.table)) answer other_answer entries others later more took.entries_are other_took.entries_are same
one_front state request answer other_answer entries others later more (inl took) (inr other_took) same =
    absurd (apart state.number took.name took.table answer other_answer entries others later more took.entries_are other_took.1 other_took.0 same)
one_front state request answer other_answer entries others later more (inr took) (inl other_took) same =
    absurd (apart state.number other_took.name other_took.table other_answer answer others entries more later other_took.entries_are took.1 took.0 (sym same))
one_front state request answer other_answer entries others later more (inr took) (inr other_took) same =
    by_itself answer other_answer entries others later more took.1 other_took.1 same

-- ---- one event

some_is : {A : Type 0} (x y : A) → Some x ≡ Some y → x ≡ y
some_is x y is = cc

same_texts : (a b : Request) (r s : Reply) → a ≡ b → r ≡ s → reply_outcome (reply_text a r) ≡ reply_outcome (reply_text b s)
same_texts a b r s p q = cc

same_requests : (a b : Request) → ◌≡◌ {A = Decided} (Go a) (Go b) → a ≡ b
same_requests a b e = cc

same_replies : (a b : List ℕ) → ◌≡◌ {A = Decided} (No a) (No b) → a ≡ b
same_replies a b e = cc

go_or_no : (a : Request) (b : List ℕ) → ◌≡◌ {A = Decided} (Go a) (No b) → ⊥
go_or_no a b e = cc

answered : OneDecision → (keys : Keys) (message : List ℕ) (state : RunState) (entries others later more : List Entry) (text other : List ℕ)
    → Answers keys state message entries text → Answers keys state message others other → entries ++ later ≡ others ++ more → AreOne entries others later more text other
answered law keys message state entries others later more text other a b same =
    let request : a.request ≡ b.request = same_requests a.request b.request (law keys state.moment message (Go a.request) (Go b.request) a.comes b.comes) in
    let takes : Takes state a.request.ask b.answer others = subst (λ (r : Request). Takes state r.ask b.answer others) (sym request) b.takes in
    let front = one_front state a.request a.answer b.answer entries others later more a.takes takes same in
    let reply : a.reply ≡ b.reply = some_is a.reply b.reply (sym a.replies ∙ ap reply_of front.1 ∙ b.replies) in
    (front.0, a.written ∙ same_texts a.request b.request a.reply b.reply request reply ∙ sym b.written, front.2)

refused : OneDecision → (keys : Keys) (message : List ℕ) (state : RunState) (entries others later more : List Entry) (text other : List ℕ)
    → Refuses keys state message entries text → Refuses keys state message others other → entries ++ later ≡ others ++ more → AreOne entries others later more text other
refused law keys message state entries others later more text other a b same = (
  a.none ∙ sym b.none,
  a.written ∙ ap reply_outcome (same_replies a.reply b.reply (law keys state.moment message (No a.reply) (No b.reply) a.comes b.comes)) ∙ sym b.written,
  ap (λ (e : List Entry). e ++ later) (sym a.none) ∙ same ∙ ap (λ (e : List Entry). e ++ more) b.none,
)

-- no message is both answered and refused
answered_or_refused : OneDecision → (keys : Keys) (message : List ℕ) (state : RunState) (entries others : List Entry) (text other : List ℕ)
    → Answers keys state message entries text → Refuses keys state message others other → ⊥
answered_or_refused law keys message state entries others text other a b =
    go_or_no a.request b.reply (law keys state.moment message (Go a.request) (No b.reply) a.comes b.comes)

one_outcome : OneDecision → (keys : Keys) (state : RunState) (event : Scheduled) (entries others later more : List Entry) (text other : List ℕ) → Happens keys state event entries text
    → Happens keys state event others other → entries ++ later ≡ others ++ more → AreOne entries others later more text other
one_outcome law keys state (Now moment) entries others later more text other a b same =
    (a.0 ∙ sym b.0, a.1 ∙ sym b.1, ap (λ (e : List Entry). e ++ later) (sym a.0) ∙ same ∙ ap (λ (e : List Entry). e ++ more) b.0)
one_outcome law keys state (Call message) entries others later more text other (inl a) (inl b) same = answered law keys message state entries others later more text other a b same
one_outcome law keys state (Call message) entries others later more text other (inl a) (inr b) same = absurd (answered_or_refused law keys message state entries others text other a b)
one_outcome law keys state (Call message) entries others later more text other (inr a) (inl b) same = absurd (answered_or_refused law keys message state others entries other text b a)
one_outcome law keys state (Call message) entries others later more text other (inr a) (inr b) same = refused law keys message state entries others later more text other a b same

-- ---- many

same_states : (state : RunState) (x y : Exchange) → x.event ≡ y.event → x.entries ≡ y.entries → state_after state y.event y.entries ≡ state_after state x.event x.entries
same_states state x y p q = cc

joined : (a b xs ys : List ℕ) → a ≡ b → xs ≡ ys → a ++ xs ≡ b ++ ys
joined a b xs ys p q = cc

some_bytes : (y : Exchange) (ys : List Exchange) → [] ≡ bytes_of (y ∷ ys) → ⊥
some_bytes y ys is =
    let none : 0 ≡ length (spelling y.event ++ bytes_of ys) = ap length is in
    omega (arith, none, length-append (spelling y.event) (bytes_of ys), spelling_some y.event)

-- as many exchanges of one input and one history have one text
pub same_front : OneDecision → (keys : Keys) (state : RunState) (xs ys : List Exchange) (rest other_rest : List ℕ) (later more : List Entry) → Follows keys state xs → Follows keys state ys
    → bytes_of xs ++ rest ≡ bytes_of ys ++ other_rest → entries_of xs ++ later ≡ entries_of ys ++ more → length xs ≡ length ys → text_of xs ≡ text_of ys
same_front law keys state [] [] rest other_rest later more f g bytes entries long = refl
same_front law keys state [] (y ∷ ys) rest other_rest later more f g bytes entries long = absurd (omega (arith, long))
same_front law keys state (x ∷ xs) [] rest other_rest later more f g bytes entries long = absurd (omega (arith, long))
same_front law keys state (x ∷ xs) (y ∷ ys) rest other_rest later more f g bytes entries long =
    let event = one_event x.event y.event (bytes_of xs ++ rest) (bytes_of ys ++ other_rest) f.0 g.0
    (sym (append_assoc (spelling x.event) (bytes_of xs) rest) ∙ bytes ∙ append_assoc (spelling y.event) (bytes_of ys) other_rest) in
    let happens : Happens keys state x.event y.entries y.text = subst (λ (e : Scheduled). Happens keys state e y.entries y.text) (sym event.0) g.2 in
    let one = one_outcome law keys state x.event x.entries y.entries (entries_of xs ++ later) (entries_of ys ++ more) x.text y.text f.2 happens
    (sym (append_assoc x.entries (entries_of xs) later) ∙ entries ∙ append_assoc y.entries (entries_of ys) more) in
    let follows = subst (λ (w : RunState). Follows keys w ys) (same_states state x y event.0 one.0) g.3 in
    joined x.text y.text (text_of xs) (text_of ys) one.1 (same_front law keys (state_after state x.event x.entries) xs ys rest other_rest later more f.3 follows event.1 one.2 (omega (arith, long)))

-- the same bytes are as many exchanges
as_many : (keys : Keys) (state other : RunState) (xs ys : List Exchange) → Follows keys state xs → Follows keys other ys → bytes_of xs ≡ bytes_of ys → length xs ≡ length ys
as_many keys state other [] [] f g bytes = refl
as_many keys state other [] (y ∷ ys) f g bytes = absurd (some_bytes y ys bytes)
as_many keys state other (x ∷ xs) [] f g bytes = absurd (some_bytes x xs (sym bytes))
as_many keys state other (x ∷ xs) (y ∷ ys) f g bytes =
    let event = one_event x.event y.event (bytes_of xs) (bytes_of ys) f.0 g.0 bytes in
    let rest : length xs ≡ length ys = as_many keys (state_after state x.event x.entries) (state_after other y.event y.entries) xs ys f.3 g.3 event.1 in
    omega (arith, rest)

-- the same bytes and the same entries have one text
pub one_text : OneDecision → (keys : Keys) (state : RunState) (xs ys : List Exchange) → Follows keys state xs → Follows keys state ys → bytes_of xs ≡ bytes_of ys → entries_of xs ≡ entries_of ys
    → text_of xs ≡ text_of ys
one_text law keys state xs ys f g bytes entries =
    same_front law keys state xs ys [] [] [] [] f g (ap (λ (b : List ℕ). b ++ []) bytes) (ap (λ (e : List Entry). e ++ []) entries) (as_many keys state state xs ys f g bytes)
