-- The pieces of the part that stands first, or none. Assumes nothing.
use Rattle.std.proofs.Common.{◌<◌, sym, ap, ◌∙◌, subst, div-le_self, arith}
use Rattle.std.specs.List.{AllByRecursion}
use Rattle.law.specs.Family.{Part}
use Rattle.law.specs.Calls.{pieces}
use Rattle.shares.specs.Parts.{law_part, lead_parts}
use Rattle.shares.specs.Work.{more_pieces, no_pieces}
use Rattle.shares.proofs.Pieces.{held_as, lead_added, no_lead}
use Rattle.shares.proofs.add_lead.Goals as goal

pub returns-in-Some : goal.returns-in-Some
returns-in-Some c =
    record {
      left = λ m ps rest held there.
          let q = law_part c.in-Some.part in
          let whole = c.args.whole in
          let who = subst (λ l. AllByRecursion (λ (p : Part). p.who < c.args.persons) (lead_parts l)) c.in-Some.is there in
          held_as m ps (more_pieces no_pieces q.who c.amount.result) (pieces whole (lead_parts c.args.lead)) rest c.args.persons c.add_pieces.new.work
          (ap (more_pieces no_pieces q.who) c.amount.ensures.value ∙ lead_added whole q ∙ ap (λ l. pieces whole (lead_parts l)) (sym c.in-Some.is))
          (c.add_pieces.ensures.left m ps no_pieces rest held (λ _. who.0) (omega (arith, c.amount.ensures.value, div-le_self whole q.by)));
    }

pub returns-in_default : goal.returns-in_default
returns-in_default c =
    record {
      left = λ m ps rest held there.
          held_as m ps no_pieces (pieces c.args.whole (lead_parts c.args.lead)) rest c.args.persons c.args.work.now
          (no_lead c.args.whole ∙ ap (λ l. pieces c.args.whole (lead_parts l)) (sym c.in_default.is)) held;
    }
