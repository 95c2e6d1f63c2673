use Rattle.std.proofs.Common.{◌≡◌, ◌+◌, ◌<◌, eqb, sym, refl, ap, ◌∙◌, subst}
use Rattle.std.specs.List.{AllByRecursion}
use Rattle.std.proofs.lemmas.Bool.{cond-true, eq-eqb}
use Rattle.law.specs.Family.{Part}
use Rattle.shares.specs.Parts.{law_part, lead_parts}
use Rattle.shares.specs.Work.{more_pieces}
use Rattle.shares.proofs.Pieces.{held_as}
use Rattle.estates.proofs.Shares.{first_added, none_added}
use Rattle.estates.proofs.add_first.Goals as goal

pub returns-in-Some : goal.returns-in-Some
returns-in-Some c =
    record {
      left = λ m ps amounts all rest held there sum small.
          let q = law_part c.in-Some.part in
          let lead = ap lead_parts c.in-Some.is in
          let who = subst (AllByRecursion (λ (p : Part). p.who < c.args.persons)) lead there in
          let more = c.amount.result in
          let same = first_added amounts all c.args.number more q (lead_parts c.args.lead) lead c.amount.ensures.value sum in
          let own : amounts q.who + more ≡ all q.who =
          ap (λ k. amounts q.who + k) (sym (cond-true (eqb q.who q.who) more 0 (eq-eqb q.who q.who refl))) ∙ same q.who in
          held_as m ps (more_pieces amounts q.who more) all rest c.args.persons c.add_pieces.new.work (λ i w. same w i)
          (c.add_pieces.ensures.left m ps amounts rest held (λ _. who.0) (subst (λ k. k < 4294967296) (sym own) (small q.who)));
    }

pub returns-in_default : goal.returns-in_default
returns-in_default c =
    record {
      left = λ m ps amounts all rest held there sum small.
          held_as m ps amounts all rest c.args.persons c.args.work.now (λ i w. none_added amounts all c.args.number (lead_parts c.args.lead) (ap lead_parts c.in_default.is) sum w i) held;
    }
