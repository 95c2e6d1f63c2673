use Rattle.std.proofs.Common.{rules}
use borrow.Author.Tests.{tests}
use Rattle.why.proofs.Heirs.{in_each, spouse_piece}
use Rattle.why.proofs.spouse_pieces.Goals as goal

pub returns : goal.returns
returns c =
    record {
      value =
          spouse_piece c.args.whole c.args.heir c.args.spouse c.filter.result c.map_or.result
          (in_each c.args.spouse (λ x. x) (λ p k. search (rules, tests)) c.filter.ensures)
          (in_each c.filter.result (λ x. x) (λ p k. search (rules, tests)) c.map_or.ensures);
    }
