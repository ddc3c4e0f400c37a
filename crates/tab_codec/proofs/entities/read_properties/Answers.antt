use Rattle.std.proofs.Common.{◌≡◌, ◌+◌, ◌++◌, ◌∷◌, [], ℕ, List, Option, None, Ok, subst, refl, rules}
use Rattle.std.specs.Option.{option_copied, option_map}
use Rattle.std.proofs.lemmas.Result.{err_from_is_err_and}
use Rattle.tab_edm.specs.Values.{property_size}
use Rattle.tab_edm.specs.declared.values.Property.{Property}
use Rattle.tab_codec.specs.Reading.{Stops, Counted, items_at, property_at, count_on}
use Rattle.tab_codec.proofs.Loops.{last_of, last_pushed, goes_on, ends, is_done}
use Rattle.tab_codec.proofs.entities.read_properties.Goals as goal

abbrev counted : Option Property → ℕ → Counted
counted last size = record { name = option_map (λ (p : Property). p.name) last; size = size }

counts_on : (ps : List Property) (x : Property) (last : Option Property) (size grown : ℕ) → grown ≡ size + property_size x → counted (last_of (ps ++ x ∷ [])) grown ≡ count_on (counted last size) x
unfolding count_on
counts_on ps x last size grown e = rw (last_pushed ps x, e) refl

pub returns-in_err-property : goal.returns-in_err-property
returns-in_err-property c =
    let p = err_from_is_err_and c.from_residual.result c.from_residual.ensures.1 in
    let last : option_copied c.last.result ≡ last_of c.loop.properties.items = search rules in
    let stops = subst (λ (s : Option Property). Stops c.in_err-property.field-0.0 (property_at (counted s c.loop.size) c.loop.rest.now)) last c.in_err-property.ensures.read in
    rw (p.1, p.2) (ends property_at count_on (counted (last_of c.loop.properties.items) c.loop.size) c.in_err-property.field-0.0 c.loop.properties.items c.args.count c.loop.counter c.loop.rest.now (items_at property_at count_on (record { name = None; size = c.args.size }) c.args.count c.args.bytes.now) c.loop-test.true stops c.loop.invariant.read)

pub loop-preserved : goal.loop-preserved
loop-preserved c =
    let x = c.in_ok-property.property in
    let ps = c.loop.properties.items in
    let total = items_at property_at count_on (record { name = None; size = c.args.size }) c.args.count c.args.bytes.now in
    let last : option_copied c.last.result ≡ last_of ps = search rules in
    let read = subst (λ (s : Option Property). property_at (counted s c.loop.size) c.loop.rest.now ≡ Ok (x, c.in_ok-property.after.now)) last c.in_ok-property.ensures.read in
    record {
      size = c.in_ok-property.ensures.size.1;
      read = rw c.in_ok-push.ensures.items (goes_on property_at count_on (counted (last_of ps) c.loop.size) (counted (last_of (ps ++ x ∷ [])) c.in_ok-property.counted) ps c.args.count c.loop.counter c.loop.rest.now x c.in_ok-property.after.now total c.loop-test.true read (counts_on ps x (last_of ps) c.loop.size c.in_ok-property.counted c.in_ok-property.ensures.size.0) c.loop.invariant.read);
    }

pub returns : goal.returns
returns c = is_done property_at count_on (counted (last_of c.loop.properties.items) c.loop.size) c.loop.properties.items c.args.count c.loop.counter c.loop.rest.now (items_at property_at count_on (record { name = None; size = c.args.size }) c.args.count c.args.bytes.now) c.loop-test.false c.loop.invariant.read
