use Rattle.std.proofs.Common.{◌∙◌, List, ℕ, ◌++◌, [], ap, sym}
use Rattle.sha2.specs.Sha256.{sha256}
use Rattle.tab_auth.specs.Digests.{keyed_digest}
use Rattle.tab_auth.proofs.Blocks.{masked_block}
use Rattle.tab_auth.proofs.digests.keyed_digest.Goals as goal

pub returns : goal.returns
unfolding keyed_digest
returns c =
    let key_held = c.add_masked.ensures [] c.new-hasher.ensures in
    let all_held = c.update-2.ensures _ (c.update.ensures _ key_held) in
    c.finalize.ensures _ all_held ∙ ap (λ (block : List ℕ). sha256 (block ++ c.args.text.now)) (sym (masked_block c.args.mask c.args.key.now))
