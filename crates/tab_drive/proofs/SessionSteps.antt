-- What a session's steps add to a run's state.
use Rattle.std.proofs.Common.{◌≡◌, ℕ, ◌+◌, List, [], ◌++◌, refl, sym, ap, ◌∙◌, subst, inl, inr, append-nil, Bool, true, false}
use Rattle.std.specs.Prelude.{◌⊎◌, Option, Some, None, Ok, Err}
use Rattle.tab_auth.specs.declared.signatures.Keys.{Keys}
use Rattle.tab_rows.specs.Rows.{RowView, row_at}
use Rattle.tab_page.specs.declared.pages.Options.{Options}
use Rattle.tab_http.specs.declared.messages.Message.{Message}
use Rattle.tab_http.specs.declared.refusals.HttpRefused.{HttpRefused}
use Rattle.tab_http.specs.declared.refusals.HttpRefused.TheVariants as http
use Rattle.tab_ops.specs.Groups.{ItemView}
use Rattle.tab_history.specs.World.{table_of}
use Rattle.tab_history.specs.declared.entries.Denied.TheVariants as denied
use Rattle.tab_history.specs.declared.asks.Ask.{Ask}
use Rattle.tab_history.specs.declared.asks.Ask.TheVariants as ask
use Rattle.tab_history.specs.declared.asks.Reply.TheVariants as reply
use Rattle.tab_json.specs.declared.entities.JsonForm.{JsonForm}
use Rattle.tab_service.specs.declared.forms.Form.{Form}
use Rattle.tab_service.specs.declared.forms.PartForm.{PartForm}
use Rattle.tab_service.specs.declared.forms.Request.{Request}
use Rattle.tab_service.specs.Decisions.{IsDecision}
use Rattle.tab_service.specs.Refusals.{http_fault}
use Rattle.tab_service.specs.declared.requests.decide.Decided.{Decided}
use Rattle.tab_service.specs.declared.requests.decide.Decided.TheVariants.{Go, No}
use Rattle.tab_service.specs.Forms.{HasParts, IsFormOf, IsInForm}
use Rattle.tab_service.specs.Replies.{SuitsAsk, Suits, reply_text, denied_reply, memory_fault}
use Rattle.tab_drive.specs.Messages.{AreRead, ComeTo}
use Rattle.tab_drive.specs.Messages.ComeTo.{as_message, as_none}
use Rattle.tab_drive.specs.RunStates.{RunState, group_name, state_after, done_outcome, reply_outcome}
use Rattle.tab_drive.specs.Stores.{Held, held_by, held_then, denial, found_or_not, tick_at, OnTable, Gets, Pages, Lacks, Makes, IsRefusedGroup, LacksMoment, MayLack, table_for, IsDecided}
use Rattle.tab_drive.specs.Sessions.{held_in, Keeps, look_up, entries_by, entries_for, Stepped, Replied, RefusedAt}
use Rattle.tab_drive.specs.declared.look_ups.LookUp.{LookUp}
use Rattle.tab_drive.specs.declared.schedule.Scheduled.TheVariants.{Now, Call}
use Rattle.tab_drive.specs.declared.session.Session.{Session}
use Rattle.tab_drive.specs.declared.stores.StoreAnswer.{StoreAnswer}
use Rattle.tab_drive.specs.declared.stores.Store.{Store}
use Rattle.tab_drive.proofs.GroupIndexes.{suits_refusal}
use Rattle.tab_drive.proofs.StateSteps.{adds, serving_after, holding_after}

-- ---- a decided request gets a reply of its kind

suits_as : (batch : Bool) (what : Ask) (decided same : StoreAnswer) → decided ≡ same → SuitsAsk batch what same.reply → SuitsAsk batch what decided.reply
suits_as batch what decided same is suits = subst (λ (d : StoreAnswer). SuitsAsk batch what d.reply) (sym is) suits

-- a batch asks for a change
create_is_single : (batch : Bool) (name : List ℕ) (json : JsonForm) (parts : List PartForm) → HasParts batch (ask.Create name) json parts → batch ≡ false
create_is_single true name json parts has = absurd has
create_is_single false name json parts has = refl

get_is_single : (batch : Bool) (name pk rk : List ℕ) (json : JsonForm) (parts : List PartForm) → HasParts batch (ask.Get name pk rk) json parts → batch ≡ false
get_is_single true name pk rk json parts has = absurd has
get_is_single false name pk rk json parts has = refl

suits_found : (batch : Bool) (name pk rk : List ℕ) (found : Option RowView) → batch ≡ false → SuitsAsk batch (ask.Get name pk rk) (found_or_not found)
suits_found batch name pk rk (Some row) single = tt
suits_found batch name pk rk None single = single

suits_get : (batch : Bool) (held : Held) (name pk rk : List ℕ) (decided : StoreAnswer) (table : Option ℕ) → batch ≡ false
    → OnTable table (λ number. Gets held (record { table = number; pk = pk; rk = rk }) decided ⊎ Lacks decided) decided → SuitsAsk batch (ask.Get name pk rk) decided.reply
suits_get batch held name pk rk decided None single none_is = suits_as batch (ask.Get name pk rk) decided _ none_is tt
suits_get batch held name pk rk decided (Some table) single (inl gets) =
    suits_as batch (ask.Get name pk rk) decided _ gets (suits_found batch name pk rk (row_at held.rows (record { table = table; pk = pk; rk = rk })) single)
suits_get batch held name pk rk decided (Some table) single (inr lacks) = suits_as batch (ask.Get name pk rk) decided _ lacks tt

suits_page : (batch : Bool) (held : Held) (name : List ℕ) (options : Options) (decided : StoreAnswer) (table : Option ℕ)
    → OnTable table (λ number. Pages held number options decided ⊎ Lacks decided) decided → SuitsAsk batch (ask.Page name options) decided.reply
suits_page batch held name options decided None none_is = suits_as batch (ask.Page name options) decided _ none_is tt
suits_page batch held name options decided (Some table) (inl pages) = suits_as batch (ask.Page name options) decided _ pages tt
suits_page batch held name options decided (Some table) (inr lacks) = suits_as batch (ask.Page name options) decided _ lacks tt

suits_change : (batch : Bool) (held : Held) (moment : ℕ) (group : List ItemView) (decided : StoreAnswer) (table : Option ℕ)
    → OnTable table
    (λ number. Makes held moment number group decided ⊎ (IsRefusedGroup held moment number group decided ⊎ (LacksMoment held moment decided ⊎ Lacks decided))) decided
    → SuitsAsk batch (ask.Change group) decided.reply
suits_change batch held moment group decided None none_is = suits_as batch (ask.Change group) decided _ none_is tt
suits_change batch held moment group decided (Some table) (inl makes) = suits_as batch (ask.Change group) decided _ makes.is (tt, makes.in_time)
suits_change batch held moment group decided (Some table) (inr (inl refuses)) =
    suits_as batch (ask.Change group) decided _ refuses.is (suits_refusal held.rows table (tick_at held moment) group refuses.refusal refuses.outcome refuses.timely)
suits_change batch held moment group decided (Some table) (inr (inr (inl spends))) = suits_as batch (ask.Change group) decided _ spends.is tt
suits_change batch held moment group decided (Some table) (inr (inr (inr lacks))) = suits_as batch (ask.Change group) decided _ lacks tt

suits_ask : (form : Form) (held : Held) (moment : ℕ) (what : Ask) (decided : StoreAnswer) → IsFormOf what form → IsDecided held moment what decided → SuitsAsk form.batch what decided.reply
suits_ask form held moment (ask.Create name) decided form_is (inl creates) = suits_as form.batch (ask.Create name) decided _ creates.is tt
suits_ask form held moment (ask.Create name) decided form_is (inr (inl finds)) =
    suits_as form.batch (ask.Create name) decided _ finds.is (create_is_single form.batch name form.json form.parts form_is)
suits_ask form held moment (ask.Create name) decided form_is (inr (inr (inl lacks))) = suits_as form.batch (ask.Create name) decided _ lacks.is tt
suits_ask form held moment (ask.Create name) decided form_is (inr (inr (inr lacks))) = suits_as form.batch (ask.Create name) decided _ lacks tt
suits_ask form held moment (ask.Drop name) decided form_is (inl drops) = suits_as form.batch (ask.Drop name) decided _ drops.is tt
suits_ask form held moment (ask.Drop name) decided form_is (inr (inl finds)) = suits_as form.batch (ask.Drop name) decided _ finds.is tt
suits_ask form held moment (ask.Drop name) decided form_is (inr (inr lacks)) = suits_as form.batch (ask.Drop name) decided _ lacks tt
suits_ask form held moment (ask.Tables after top) decided form_is (inl names) = suits_as form.batch (ask.Tables after top) decided _ names tt
suits_ask form held moment (ask.Tables after top) decided form_is (inr lacks) = suits_as form.batch (ask.Tables after top) decided _ lacks tt
suits_ask form held moment (ask.Get name pk rk) decided form_is comes =
    suits_get form.batch held name pk rk decided (table_of held.names name) (get_is_single form.batch name pk rk form.json form.parts form_is) comes
suits_ask form held moment (ask.Page name options) decided form_is comes = suits_page form.batch held name options decided (table_of held.names name) comes
suits_ask form held moment (ask.Change group) decided form_is comes = suits_change form.batch held moment group decided (table_of held.names (group_name group)) comes

pub suits_decided : (held : Held) (moment : ℕ) (request : Request) (decided : StoreAnswer) → IsInForm request.form.account request → IsDecided held moment request.ask decided → Suits request decided.reply
suits_decided held moment request decided in_form comes =
    record { form = in_form.suits; suits = suits_ask request.form held moment request.ask decided in_form.suits comes }

-- ---- want of memory comes to its reply, where it may come

lacks_get : (held : Held) (name pk rk : List ℕ) (table : Option ℕ) → MayLack (ask.Get name pk rk) table
    → OnTable table (λ number. Gets held (record { table = number; pk = pk; rk = rk }) (denial denied.Memory) ⊎ Lacks (denial denied.Memory)) (denial denied.Memory)
lacks_get held name pk rk None may = absurd may
lacks_get held name pk rk (Some table) may = inr refl

lacks_page : (held : Held) (name : List ℕ) (options : Options) (table : Option ℕ) → MayLack (ask.Page name options) table
    → OnTable table (λ number. Pages held number options (denial denied.Memory) ⊎ Lacks (denial denied.Memory)) (denial denied.Memory)
lacks_page held name options None may = absurd may
lacks_page held name options (Some table) may = inr refl

lacks_change : (held : Held) (moment : ℕ) (group : List ItemView) (table : Option ℕ) → MayLack (ask.Change group) table
    → OnTable table
    (λ number. Makes held moment number group (denial denied.Memory)
    ⊎ (IsRefusedGroup held moment number group (denial denied.Memory) ⊎ (LacksMoment held moment (denial denied.Memory) ⊎ Lacks (denial denied.Memory)))) (denial denied.Memory)
lacks_change held moment group None may = absurd may
lacks_change held moment group (Some table) may = inr (inr (inr refl))

pub lacks_decided : (held : Held) (moment : ℕ) (what : Ask) → MayLack what (table_for held.names what) → IsDecided held moment what (denial denied.Memory)
lacks_decided held moment (ask.Create name) may = inr (inr (inr refl))
lacks_decided held moment (ask.Drop name) may = inr (inr refl)
lacks_decided held moment (ask.Tables after top) may = inr refl
lacks_decided held moment (ask.Get name pk rk) may = lacks_get held name pk rk (table_of held.names name) may
lacks_decided held moment (ask.Page name options) may = lacks_page held name options (table_of held.names name) may
lacks_decided held moment (ask.Change group) may = lacks_change held moment group (table_of held.names (group_name group)) may

-- the reply that no memory was found is the same for all requests
pub denied_text : (request : Request) → reply_text request (reply.Denied denied.Memory) ≡ memory_fault
unfolding reply_text denied_reply
denied_text request = refl

-- a request that is in form for an account is so for its own
pub own_form : (account : List ℕ) (request : Request) → IsInForm account request → IsInForm request.form.account request
own_form account request in_form = subst (λ (a : List ℕ). IsInForm a request) (sym in_form.of_account) in_form

-- ---- messages

-- a message that was read comes to its decision in the state
pub comes_to : (keys : Keys) (moment now : ℕ) (bytes : List ℕ) (message : Message) (found decided : Decided) → moment ≡ now → AreRead bytes (Ok message)
    → IsDecision keys moment message found → found ≡ decided → ComeTo keys now bytes decided
comes_to keys moment now bytes message found decided same read is given =
    as_message message read
    (subst (λ (m : ℕ). IsDecision keys m message decided) same (subst (λ (d : Decided). IsDecision keys moment message d) given is))

no_fault : (refused : HttpRefused) (reply : List ℕ) → refused ≡ http.Memory → http_fault refused ≡ Some reply → ⊥
unfolding http_fault
no_fault refused reply is fault = let none : http_fault http.Memory ≡ Some reply = subst (λ (r : HttpRefused). http_fault r ≡ Some reply) is fault in cc

-- and one that was refused to its reply
pub refused_comes : (keys : Keys) (now : ℕ) (bytes : List ℕ) (refused : HttpRefused) (reply : List ℕ) → (refused ≡ http.Memory) ⊎ AreRead bytes (Err refused) → http_fault refused ≡ Some reply
    → ComeTo keys now bytes (No reply)
refused_comes keys now bytes refused reply (inl is) fault = absurd (no_fault refused reply is fault)
refused_comes keys now bytes refused reply (inr read) fault = as_none refused reply read fault refl

-- ---- steps

-- an answered message is a step of the run
pub replied_steps : (keys : Keys) (message : List ℕ) (state : RunState) (old new : Session) (request : Request) (text : List ℕ)
    → Keeps old state → ComeTo keys state.moment message (Go request) → Replied old new request text → Stepped keys state (Call message) text old new
unfolding state_after
replied_steps keys message state old new request text keeps comes replied =
    let over : IsDecided (held_in state) old.moment request.ask replied.decided = subst (λ (h : Held). IsDecided h old.moment request.ask replied.decided) keeps.held replied.comes in
    let decided : IsDecided (held_in state) state.moment request.ask replied.decided = subst (λ (m : ℕ). IsDecided (held_in state) m request.ask replied.decided) keeps.moment over in
    let added = adds state request.ask replied.decided keeps.serving decided in
    let entries = entries_for state.number state.moment (held_in state) request.ask replied.decided.reply in
    record {
      entries = entries;
      happens = inl (record {
        request = request;
        comes = comes;
        answer = added.answer;
        answers = added.answers;
        takes = added.takes;
        reply = replied.decided.reply;
        replies = added.replies;
        written = replied.written;
      });
      allowed = added.allowed;
      keeps = record {
        moment = replied.moment ∙ keeps.moment;
        number = replied.number ∙ ap (λ (n : ℕ). n + 1) keeps.number;
        held = replied.held ∙ ap (λ (h : Held). held_then h replied.decided.effect) keeps.held ∙ sym (holding_after state (Call message) request.ask replied.decided entries added);
        serving = serving_after state (Call message) request.ask replied.decided entries added;
      };
      history = replied.history ∙ ap (λ (n : ℕ). old.history ++ entries_for n old.moment (held_by old.store) request.ask replied.decided.reply) keeps.number
          ∙ ap (λ (m : ℕ). old.history ++ entries_for state.number m (held_by old.store) request.ask replied.decided.reply) keeps.moment
          ∙ ap (λ (h : Held). old.history ++ entries_for state.number state.moment h request.ask replied.decided.reply) keeps.held;
    }

-- an event that sets the moment is a step of the run
pub moved_steps : (keys : Keys) (state : RunState) (old new : Session) (moment : ℕ) → Keeps old state
    → new.moment ≡ moment → new.number ≡ old.number + 1 → held_by new.store ≡ held_by old.store → new.history ≡ old.history
    → Stepped keys state (Now moment) done_outcome old new
unfolding state_after
moved_steps keys state old new moment keeps at number held history = record {
  entries = [];
  happens = (refl, refl);
  allowed = tt;
  keeps = record {
    moment = at;
    number = number ∙ ap (λ (n : ℕ). n + 1) keeps.number;
    held = held ∙ keeps.held;
    serving = record { floors = keeps.serving.floors; bounds = keeps.serving.bounds; settled = keeps.serving.settled };
  };
  history = history ∙ sym (append-nil old.history);
}

-- a refused message is a step of the run
pub refused_steps : (keys : Keys) (message reply text : List ℕ) (state : RunState) (old new : Session) → Keeps old state → ComeTo keys state.moment message (No reply)
    → text ≡ reply_outcome reply → RefusedAt old new → Stepped keys state (Call message) text old new
unfolding state_after
refused_steps keys message reply text state old new keeps comes written refused = record {
  entries = [];
  happens = inr (record { reply = reply; comes = comes; none = refl; written = written });
  allowed = tt;
  keeps = record {
    moment = refused.moment ∙ keeps.moment;
    number = refused.number ∙ ap (λ (n : ℕ). n + 1) keeps.number;
    held = refused.held ∙ keeps.held;
    serving = record { floors = keeps.serving.floors; bounds = keeps.serving.bounds; settled = keeps.serving.settled };
  };
  history = refused.history ∙ sym (append-nil old.history);
}

-- a request that is recorded over a store that holds what it held
pub replied_from : (old new : Session) (store : Store) (look : Option LookUp) (request : Request) (text : List ℕ) (decided : StoreAnswer)
    → held_by store ≡ held_by old.store → look ≡ look_up old.store.tables.names request.ask
    → IsDecided (held_by old.store) old.moment request.ask decided → text ≡ reply_outcome (reply_text request decided.reply)
    → new.history ≡ old.history ++ entries_by look old.number old.moment store.next_table request.ask decided.reply
    → held_by new.store ≡ held_then (held_by store) decided.effect → new.number ≡ old.number + 1 → new.moment ≡ old.moment → Replied old new request text
replied_from old new store look request text decided held looked comes written history held_is number moment = record {
  decided = decided;
  comes = comes;
  written = written;
  history = history ∙ ap (λ (n : ℕ). old.history ++ entries_by look old.number old.moment n request.ask decided.reply) (ap (λ (h : Held). h.next_table) held)
      ∙ ap (λ (l : Option LookUp). old.history ++ entries_by l old.number old.moment old.store.next_table request.ask decided.reply) looked;
  held = held_is ∙ ap (λ (h : Held). held_then h decided.effect) held;
  number = number;
  moment = moment;
}
