use Rattle.std.proofs.Common.{ap, ◌∙◌, rules}
use borrow.Author.Tests.{tests}
use Rattle.std.proofs.lemmas.Iterator.Consumers.{YieldsList-from_first, YieldsList-from_filter, count_from_yields_List}
use Rattle.law.specs.Family.{children}
use Rattle.people.specs.Walking.{children_left}
use Rattle.descent.proofs.living_children.Goals as goal

pub returns : goal.returns
returns c =
    record {
      value = λ n f s work rest held.
          count_from_yields_List c.filter.result c.count.result c.count.ensures.ran
          (YieldsList-from_filter _ s
          (YieldsList-from_first (λ x. x) children_left (children f c.args.who) (ap children_left c.filter.ensures.source ∙ c.of.ensures.value n f s work rest held.0 held.1))
          c.filter.ensures.closure (λ x b q call. search (rules, tests)));
    }
