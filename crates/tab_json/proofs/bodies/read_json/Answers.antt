use Rattle.std.proofs.Common.{refl}
use Rattle.std.proofs.lemmas.Bool.{false≢true}
use Rattle.serde_json.specs.View.{view}
use Rattle.tab_json.proofs.Json.{json_read, json_unread}
use Rattle.tab_json.proofs.bodies.read_json.Goals as goal

pub returns-in-Ok : goal.returns-in-Ok
returns-in-Ok c = let read = c.in-Ok.ensures.ok in json_read c.args.bytes.now (view c.in-Ok.body) read.0 read.1

pub returns-in-Err-2 : goal.returns-in-Err-2
returns-in-Err-2 c = λ not_memory. (json_unread c.args.bytes.now (c.in-Err.ensures.err (λ memory. false≢true (c.if-is_memory.ensures.1 memory))), refl)
