use Rattle.std.proofs.Common.{unwrap_or, ap, ◌∙◌}
use Rattle.passes.proofs.Steps.{some_back}
use Rattle.passes.proofs.entry.Goals as goal

pub returns-clause-value : goal.returns-clause-value
returns-clause-value c n f ps rows spare rest held = (
  c.word_at.ensures.value n f ps rows spare rest held,
  ap (λ o. unwrap_or o 0) c.then_some.ensures ∙ some_back c.word_at-multiple.result ∙ c.word_at-multiple.ensures.value n f ps rows spare rest held,
)
