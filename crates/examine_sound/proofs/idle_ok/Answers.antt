-- `examine_sound::idle_ok` meets its contract.
use mathlib.Core.Path.{◌∙◌, sym}
use Rattle.basics.proofs.Deciding.{fails, refuted, via}
use Rattle.examine_sound.proofs.idle_ok.Goals as goal

pub returns-then-trace_count-ne0 : goal.returns-then-trace_count-ne0
returns-then-trace_count-ne0 c = fails (λ q. c.if-trace_count-ne0.true (c.trace_count.ensures ∙ q.empty))

pub returns-then-not-none_condemned : goal.returns-then-not-none_condemned
returns-then-not-none_condemned c = fails (λ q. refuted c.none_condemned.ensures c.if-not-none_condemned.true q.none)

pub returns : goal.returns
returns c =
    via
    (λ h. record {
      empty = sym c.trace_count.ensures ∙ c.if-trace_count-ne0.false;
      none = c.none_condemned.ensures.sound c.if-not-none_condemned.false;
      records = h;
    })
    (λ q. q.records) c.live_ok.ensures
