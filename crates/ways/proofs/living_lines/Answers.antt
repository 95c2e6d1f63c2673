use Rattle.std.proofs.Common.{◌≡◌, ◌+◌, map, length, vec_items, sym, ap, ◌∙◌, arith}
use Rattle.std.specs.List.{range_with_len}
use Rattle.std.proofs.lemmas.Slice.Eq.{slice_eq-Decides}
use Rattle.std.proofs.lemmas.List.{length-map}
use Rattle.law.specs.Family.{line_lives}
use Rattle.people.specs.Persons.{law_person}
use Rattle.ways.specs.Rows.{family_of}
use Rattle.ways.proofs.Marks.{seen, seen_none, seen_more, seen_same, seen_all}
use Rattle.ways.proofs.living_lines.Goals as goal
use Rattle.ways.proofs.living_lines.Goals.{else-loop-test, then-loop-test+in_ok-next+then-eq}
use Rattle.std.specs.Cmp.{booleans_Decides}

pub loop-init : goal.loop-init
loop-init c =
    c.in_ok-lives.ensures.items_if_clones_equal (λ y e. e)
    ∙ seen_none (family_of c.args.family.now) c.args.decedent (length c.args.family.now) (length-map c.args.family.now law_person)

pub loop-preserved : goal.loop-preserved
loop-preserved c =
    c.in_ok-next.ensures.value
    ∙ seen_more (family_of c.args.family.now) c.args.decedent c.loop.counter (length c.args.family.now) c.deref.result.now (c.deref.ensures.value ∙ c.loop.invariant)
    (length-map c.args.family.now law_person)

pub returns : goal.returns
returns c =
    let f = family_of c.args.family.now in
    let d = c.args.decedent in
    let n = length c.args.family.now in
    let same = length-map c.args.family.now law_person in
    let k = c.loop.counter in
    let long : map (line_lives f d) (range_with_len 0 (length f)) ≡ map (line_lives f d) (range_with_len 0 n) = ap (λ m. map (line_lives f d) (range_with_len 0 m)) same in
    record {
      value =
          elim c.loop-test.branch [
            | else-loop-test w ↦ c.loop.invariant ∙ seen_all f d k n (omega arith) c.loop.auto.counter-end same ∙ long
            | then-loop-test+in_ok-next+then-eq w ↦
                let eq = (slice_eq-Decides booleans_Decides (vec_items w.in_ok-next.next) (vec_items c.loop.lives) _ w.eq.ensures).0 w.if-eq.true in
                let next : vec_items w.in_ok-next.next ≡ seen f d (k + 1) =
                w.in_ok-next.ensures.value ∙ seen_more f d k n w.deref.result.now (w.deref.ensures.value ∙ c.loop.invariant) same in
                c.loop.invariant
                ∙ seen_same f d k (omega arith)
                (sym next ∙ eq ∙ c.loop.invariant)
                ∙ long
          ];
    }
