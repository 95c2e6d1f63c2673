use Rattle.std.proofs.Common.{◌≡◌, ℕ, ◌+◌, ◌<◌, ◌≤◌, true, List, [], ◌∷◌, length, get_or, drop, sym, refl, ap, ◌∙◌, subst, arith}
use Rattle.std.proofs.lemmas.List.{get_or-map, length-map, drop_more, drop_all}
use Rattle.std.proofs.ByRecursion.{All-get_or}
use Rattle.law.specs.Family.{Family, Part}
use Rattle.theory.specs.Living.{alive}
use Rattle.people.specs.Layout.{count_in}
use Rattle.amounts.specs.Passes.{all_listed, listed_in}
use Rattle.amounts.specs.Lines.{divided_among, starts_persons}
use Rattle.amounts.proofs.Listing.{alive_there}
use Rattle.passes.specs.Rows.{Rowed}
use Rattle.passes.specs.Listings.{listed_rows, Ready}
use Rattle.passes.proofs.Rows.{rowed_count}
use Rattle.passes.proofs.Listings.{all_first, all_none, listing_line}
use Rattle.estates.specs.Passing.{ToList}
use Rattle.estates.proofs.Starts.{none_listed, no_part}
use Rattle.estates.proofs.list_all.Goals as goal

-- the person of a line to begin with
start_alive : (ws : List ℕ) (n : ℕ) (f : Family) (rk : ℕ → ℕ) (ss : List Part) (spare rest : List ℕ) (count i : ℕ) → ToList ws n f rk ss spare rest count → i < length ss → alive f (get_or ss i no_part).who ≡ true
start_alive ws n f rk ss spare rest count i t h = All-get_or (λ (s : Part). alive f s.who ≡ true) ss i no_part h t.living

pub loop-i-init : goal.loop-i-init
loop-i-init c =
    record {
      limit = refl;
      count = refl;
      within = omega arith;
      listed = λ n f rk ss spare rest t. ([], t.rows, refl, none_listed t.ranked, refl);
    }

pub loop-i-preserved : goal.loop-i-preserved
loop-i-preserved c =
    let i = c.loop-i.i in
    let who = c.in-Some.start.who in
    let inv = c.loop-i.invariant in
    record {
      limit = c.list-listed.ensures.limit ∙ inv.limit;
      count = c.list-listed.ensures.count ∙ inv.count;
      within = subst (λ z. c.list-listed.result ≤ z) inv.limit (c.list-listed.ensures.within (subst (λ z. c.loop-i.listed ≤ z) (sym inv.limit) inv.within));
      listed = λ n f rk ss spare rest t.
          let g : ℕ → List ℕ → List ℕ = λ x o. listed_in (length f) (divided_among f) x o in
          let persons = starts_persons ss in
          let (now, rows, at, listing, all) = inv.listed n f rk ss spare rest t in
          let h : i < length ss = omega (arith, c.loop-i-test.true, t.many) in
          let lives = start_alive c.args.memory.now n f rk ss spare rest c.args.count i t h in
          let there = alive_there t.ranked (get_or ss i no_part).who lives in
          let same = sym (ap (λ (q : Part). q.who) (c.in-Some.ensures.value n f ss (listed_rows n f now) spare rest no_part rows h (omega (arith, t.rows.room)))) in
          let first : drop i persons ≡ who ∷ drop (i + 1) persons =
          drop_more persons i 0 (omega (arith, length-map ss (λ (q : Part). q.who))) ∙ ap (λ q. q ∷ drop (i + 1) persons) (get_or-map (λ (q : Part). q.who) ss i no_part 0 h ∙ same) in
          let steps : count_in c.loop-i.memory ≡ length f = rowed_count rows in
          let ready : Ready c.loop-i.memory n f rk ss now spare rest (count_in c.loop-i.memory) who c.loop-i.listed =
          record { rows = rows; listing = listing; long = sym at; ranked = t.ranked; lives = subst (λ p. alive f p ≡ true) same lives; enough = omega arith } in
          let listed = c.list-listed.ensures.listed n f rk ss now spare rest ready in (
            listed_in (count_in c.loop-i.memory) (divided_among f) who now,
            listed.rows,
            listed.next,
            listing_line c.loop-i.memory n f rk ss now spare rest (count_in c.loop-i.memory) who c.loop-i.listed ready,
            ap (λ k. all_listed g (drop (i + 1) persons) (listed_in k (divided_among f) who now)) steps ∙ sym (all_first g who (drop (i + 1) persons) now)
                ∙ ap (λ ps. all_listed g ps now) (sym first) ∙ all,
          );
    }

pub returns-after-loop-i : goal.returns-after-loop-i
returns-after-loop-i c =
    record {
      limit = c.loop-i.invariant.limit;
      count = c.loop-i.invariant.count;
      within = c.loop-i.invariant.within;
      listed = λ n f rk ss spare rest t.
          let g : ℕ → List ℕ → List ℕ = λ x o. listed_in (length f) (divided_among f) x o in
          let persons = starts_persons ss in
          let (now, rows, at, listing, all) = c.loop-i.invariant.listed n f rk ss spare rest t in
          let over = drop_all c.loop-i.i persons (omega (arith, length-map ss (λ (q : Part). q.who), t.many)) in
          let is = sym (all_none g now) ∙ ap (λ ps. all_listed g ps now) (sym over) ∙ all in
          record { rows = subst (λ o. Rowed c.loop-i.memory n f ss (listed_rows n f o) spare rest) is rows; next = at ∙ ap length is };
    }

pub returns-in_default : goal.returns-in_default
returns-in_default c =
    let i = c.loop-i.i in
    record {
      limit = c.loop-i.invariant.limit;
      count = c.loop-i.invariant.count;
      within = c.loop-i.invariant.within;
      listed = λ n f rk ss spare rest t.
          let (now, rows, at, listing, all) = c.loop-i.invariant.listed n f rk ss spare rest t in
          let h : i < length ss = omega (arith, c.loop-i-test.true, t.many) in
          let there = alive_there t.ranked (get_or ss i no_part).who (start_alive c.args.memory.now n f rk ss spare rest c.args.count i t h) in
          absurd (c.in_default.ensures.value n f ss (listed_rows n f now) spare rest no_part rows h (omega (arith, t.rows.room)));
    }
