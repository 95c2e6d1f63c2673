use Rattle.std.proofs.Common.{◌≡◌, suc, length, get_or, sym, refl, ap, ◌∙◌, arith}
use Rattle.std.proofs.lemmas.Bool.{cond-true, cond-false}
use Rattle.std.proofs.lemmas.List.{get_or-set_other}
use Rattle.bits.specs.Sets.{without_member}
use Rattle.children.specs.Links.{link_row}
use Rattle.people.specs.Layout.{person_row, laid, count_in}
use Rattle.children.proofs.Links.{links_wide}
use Rattle.people.proofs.Layouts.{limit_laid, laid_count}
use Rattle.living.specs.Marks.{unsupported, lowered}
use Rattle.living.proofs.Bits.{changed_laid}
use Rattle.living.proofs.ends.Goals as goal

pub returns-then-not-is_unsupported : goal.returns-then-not-is_unsupported
returns-then-not-is_unsupported c =
    record {
      limit = refl;
      count = refl;
      left = λ n f s work rest held there.
          let is = c.is_unsupported.ensures.value n f s work rest held in
          held.0
          ∙ ap (λ v. laid n (length f) (person_row f) (link_row f) v work rest)
          (sym (cond-false (unsupported f s (suc c.args.who)) (lowered (length f) f c.args.who (without_member s c.args.who)) s (sym is ∙ c.if-not-is_unsupported.true)));
    }

pub returns : goal.returns
returns c =
    let ws = c.args.memory.now in
    let p = c.args.who in
    record {
      limit = c.lower.ensures.limit ∙ ap (λ u. get_or u 0 0) c.remove.ensures.left ∙ get_or-set_other ws _ 0 _ 0 (λ z. omega arith);
      count = c.lower.ensures.count ∙ ap (λ u. get_or u 1 0) c.remove.ensures.left ∙ get_or-set_other ws _ 1 _ 0 (λ z. omega arith);
      left = λ n f s work rest held there.
          let l = limit_laid ws n (length f) (person_row f) (link_row f) s work rest held.0 in
          let out : c.remove.new.memory ≡ laid n (length f) (person_row f) (link_row f) (without_member s p) work rest =
          changed_laid ws c.remove.new.memory n (length f) f (link_row f) s work rest c.marks_at-at.result p (λ v. without_member v p) held.0 (links_wide f)
          c.marks_at-at.ensures.value (omega (arith, c.requires.there)) c.remove.ensures.sets in
          let k : count_in c.remove.new.memory ≡ length f = ap count_in out ∙ laid_count n (length f) (person_row f) (link_row f) (without_member s p) work rest in
          c.lower.ensures.left n f (without_member s p) work rest (out, held.1) there
          ∙ (λ i. laid n (length f) (person_row f) (link_row f) (lowered (k i) f p (without_member s p)) work rest)
          ∙ ap (λ v. laid n (length f) (person_row f) (link_row f) v work rest)
          (sym
          (cond-true (unsupported f s (suc p)) (lowered (length f) f p (without_member s p)) s
          (sym (c.is_unsupported.ensures.value n f s work rest held) ∙ c.if-not-is_unsupported.false)));
    }
