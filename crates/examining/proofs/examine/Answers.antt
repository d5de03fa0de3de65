-- `examining::examine` meets its contract.
use mathlib.Core.Path.{◌∙◌, sym}
use Rattle.layout.proofs.Regions.{sized}
use Rattle.model_laws.proofs.Promised.{fits}
use Rattle.examining.proofs.Examined.{scratch_size, promise_is}
use Rattle.examining.proofs.examine.Goals as goal

pub scratch_words-words-requires : goal.scratch_words-words-requires
scratch_words-words-requires c =
    let z = sized _ _ (fits c.in_ok-require_size.ensures) in (z.few, (z.whole, z.small, z.large))

pub returns-then-scratch-words : goal.returns-then-scratch-words
returns-then-scratch-words c =
    scratch_size c.args.g c.args.mem.now c.args.scratch.now (λ e. c.if-scratch-words.true (e ∙ sym c.scratch_words-words.ensures))

pub consistent-requires : goal.consistent-requires
consistent-requires c =
    (sized _ _ (fits c.in_ok-require_size.ensures), c.if-scratch-words.false ∙ c.scratch_words-words.ensures)

pub returns : goal.returns
returns c =
    promise_is c.args.g c.args.mem.now c.args.scratch.now (fits c.in_ok-require_size.ensures)
    (c.if-scratch-words.false ∙ c.scratch_words-words.ensures) _ c.consistent.ensures.1 _ c.consistent.ensures.0
