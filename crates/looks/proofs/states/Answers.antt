-- `looks::states` meets its contract.
use mathlib.Core.Path.{sym, ◌∙◌}
use Rattle.layout.proofs.Regions.{sized}
use Rattle.model_laws.proofs.Promised.{fits}
use Rattle.looks.proofs.Looking.{states_short, states_13, states_ok}
use Rattle.looks.proofs.states.Goals as goal

pub states_words-requires : goal.states_words-requires
states_words-requires c = (sized _ _ (fits c.in_ok-require_size.ensures)).few

pub returns-then-output-states_words : goal.returns-then-output-states_words
returns-then-output-states_words c = states_short _ _ _ (λ e. c.if-output-states_words.true (e ∙ sym c.states_words.ensures))

pub records_ok-requires : goal.records_ok-requires
records_ok-requires c = sized _ _ (fits c.in_ok-require_size.ensures)

pub returns-then-not-records_ok : goal.returns-then-not-records_ok
returns-then-not-records_ok c =
    states_13 _ _ _ (fits c.in_ok-require_size.ensures)
    (c.if-output-states_words.false ∙ c.states_words.ensures) _ c.records_ok.ensures
    c.if-not-records_ok.true

pub copy-requires : goal.copy-requires
copy-requires c =
    (sized _ _ (fits c.in_ok-require_size.ensures), c.if-output-states_words.false ∙ c.states_words.ensures)

pub returns : goal.returns
returns c =
    states_ok _ _ _ (fits c.in_ok-require_size.ensures)
    (c.if-output-states_words.false ∙ c.states_words.ensures) _ c.copy.ensures
