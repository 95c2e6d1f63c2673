use Rattle.std.proofs.Common.{◌≡◌, ◌+◌, ◌-◌, ◌*◌, [], ◌∷◌, ◌++◌, length, get_or, take, drop, set, ap, ◌∙◌, arith}
use borrow.Rule.Slice.PartMut.{put_mid}
use Rattle.std.proofs.lemmas.List.{get_or-set_other, get_or-set_same}
use Rattle.rows.proofs.Written.{length-written, get_or-written_before, get_or-put_before, length-put}
use Rattle.children.specs.Links.{link_row, filed}
use Rattle.people.specs.Layout.{limit_in, count_in, person_words, person_row, laid}
use Rattle.people.specs.Persons.{law_person}
use Rattle.people.proofs.Layouts.{laid_count, limit_laid, limit_said}
use Rattle.people.proofs.Links.{added}
use Rattle.people.proofs.add.Goals as goal

pub returns : goal.returns
returns c =
    let ws = c.args.memory.now in
    let n = limit_in ws in
    let k = count_in ws in
    let mid = c.put.new.memory in
    let at = c.links_at-at.result in
    let many = c.marks_at-end.result - c.links_at-at.result in
    let at_links : at ≡ 2 + 4 * n = c.links_at-at.ensures.value in
    let all_links : many ≡ 4 * n = omega (arith, c.links_at-at.ensures.value, c.marks_at-end.ensures.value) in
    let put = put_mid at many mid c.file_child.new.links in
    let long : length mid ≡ length ws = ap length c.put.ensures.left ∙ length-written (2 + 4 * k) (person_words (law_person c.args.child)) ws in
    record {
      limit =
          get_or-set_other put 1 0 (k + 1) 0 (λ z. omega arith) ∙ get_or-put_before at many 0 mid c.file_child.new.links 0 (omega arith) (omega arith)
          ∙ ap (λ u. get_or u 0 0) c.put.ensures.left ∙ get_or-written_before (2 + 4 * k) 0 (person_words (law_person c.args.child)) ws 0 (omega arith);
      count = get_or-set_same put 1 (k + 1) 0 (omega (arith, length-put at many mid c.file_child.new.links (omega arith) (omega arith)));
      left = λ n' f s work rest e' two other new.
          let lim = limit_laid ws n' (length f) (person_row f) (link_row f) s work rest e' in
          let e = limit_said ws n' (length f) (person_row f) (link_row f) s work rest e' in
          let count : k ≡ length f = ap count_in e ∙ laid_count n (length f) (person_row f) (link_row f) s work rest in
          (λ i. set (put_mid (at_links i) (all_links i) mid c.file_child.new.links) 1 (k + 1))
          ∙ added ws c.put.new.memory c.file_child.new.links n k f (law_person c.args.child) c.args.child.mother c.args.child.father s work rest
          c.mother_of_last.result c.mother_of_last-2.result count c.requires.free c.requires.mother c.requires.father other two new
          (c.mother_of_last.ensures.value n' (length f) f s work rest e' (omega arith)) (c.mother_of_last-2.ensures.value n' (length f) f s work rest e' (omega arith)) e
          c.put.ensures.left
          (c.file_child.ensures.left
          ∙ (λ i. filed (filed (take (all_links i) (drop (at_links i) mid)) c.args.child.mother k c.mother_of_last.result) c.args.child.father k c.mother_of_last-2.result))
          ∙ (λ i. laid (lim i) (length f + 1) (person_row (f ++ (law_person c.args.child ∷ []))) (link_row (f ++ (law_person c.args.child ∷ []))) s work rest);
    }
