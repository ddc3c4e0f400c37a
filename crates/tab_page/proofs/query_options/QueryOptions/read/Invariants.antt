use Rattle.std.proofs.Common.{◌≡◌}
use Rattle.form_urlencoded.specs.Form.{raw_pairs}
use Rattle.form_urlencoded.specs.Parse.{raw_pairs_left}
use Rattle.tab_page.specs.QueryOptions.{options_view, no_options, with_pairs}
use Rattle.tab_page.proofs.query_options.QueryOptions.read.Given as goal

abbrev pub invariant-loop-name : goal.invariant-loop-name
invariant-loop-name l =
    with_pairs (options_view (record { filter = l.known.0; select = l.known.1.0; top = l.known.1.1.0; partition = l.known.1.1.1.0; row = l.known.1.1.1.1.0; table = l.known.1.1.1.1.1.0; comp = l.known.1.1.1.1.1.1.0 })) (raw_pairs_left l.name-iterator)
    ≡ with_pairs no_options (raw_pairs l.query)
