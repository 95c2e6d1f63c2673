use Rattle.std.proofs.Common.{◌≡◌, ℕ, ◌+◌, ◌*◌, ◌/◌, ◌<◌, length, get_or, set, Ok, Err, Result, sym, ◌∙◌, subst, arith}
use Rattle.std.specs.Result.{OkIff, result_unwrap_or}
use Rattle.std.proofs.ByRecursion.{All-get_or, All-weaker}
use Rattle.law.specs.Family.{Part}
use Rattle.shares.specs.Parts.{law_part}
use Rattle.amounts.specs.Passes.{started}
use Rattle.passes.specs.Rows.{Rowed, with_pieces}
use Rattle.passes.proofs.Rows.{rowed_limit}
use Rattle.estates.proofs.Starts.{no_part, started_turn, started_end, start_fits}
use Rattle.estates.proofs.give.Goals as goal

-- a number that fits is converted
fitting : {E : Type 0} (r : Result ℕ E) (x : ℕ) → OkIff r (x < 4294967296) x → x < 4294967296 → result_unwrap_or r 0 ≡ x
fitting (Ok y) x ok h = ok.1
fitting (Err e) x none h = absurd (none h)

pub loop-i-preserved : goal.loop-i-preserved
loop-i-preserved c =
    let i = c.loop-i.i in
    let times = c.args.times in
    let whole = c.args.whole in
    let s : Part = law_part c.in-Some.start in
    let inv = c.loop-i.invariant in
    record {
      limit = c.add.ensures.limit ∙ inv.limit;
      count = c.add.ensures.count ∙ inv.count;
      given = λ n f ss rows spare rest held many there small.
          let (row, now, all) = inv.given n f ss rows spare rest held many there small in
          let long = now.pieces_long in
          let l = rowed_limit now in
          let h : i < length ss = omega (arith, c.loop-i-test.true) in
          let is = c.in-Some.ensures.value n f ss (with_pieces rows row) spare rest no_part now h (All-get_or (λ (q : Part). q.who < n) ss i no_part h there) in
          let final = sym (started_turn times whole ss i no_part s row h is) ∙ all in
          let here : s.who < n = let w = c.in-Some.ensures.within in omega arith in
          let fits =
          start_fits times whole ss i s row (started times whole ss rows.pieces) (All-weaker (λ (q : Part). q.who < n) (λ (q : Part). q.who < length row) (λ q k. omega arith) ss there) (omega arith) final small in
          let amount = c.amount-pieces.ensures.value in
          let more : c.unwrap_or.result ≡ times * (whole / s.by) = c.unwrap_or.ensures ∙ fitting c.try_from.result c.amount-pieces.result c.try_from.ensures (omega arith) ∙ amount in (
            set row s.who (get_or row s.who 0 + times * (whole / s.by)),
            subst (λ x. Rowed c.add.new.memory n f ss (with_pieces rows (set row s.who (get_or row s.who 0 + x))) spare rest) more
                (c.add.ensures.added n f ss (with_pieces rows row) spare rest now (subst (λ x. get_or row s.who 0 + x < 4294967296) (sym more) fits)),
            final,
          );
    }

pub returns-after-loop-i : goal.returns-after-loop-i
returns-after-loop-i c =
    record {
      limit = c.loop-i.invariant.limit;
      count = c.loop-i.invariant.count;
      given = λ n f ss rows spare rest held many there small.
          let (row, now, all) = c.loop-i.invariant.given n f ss rows spare rest held many there small in
          subst (λ r. Rowed c.loop-i.memory n f ss (with_pieces rows r) spare rest) (sym (started_end c.args.times c.args.whole ss c.loop-i.i row (omega arith)) ∙ all) now;
    }

pub returns-in_default : goal.returns-in_default
returns-in_default c =
    record {
      limit = c.loop-i.invariant.limit;
      count = c.loop-i.invariant.count;
      given = λ n f ss rows spare rest held many there small.
          let (row, now, all) = c.loop-i.invariant.given n f ss rows spare rest held many there small in
          let h : c.loop-i.i < length ss = omega (arith, c.loop-i-test.true) in
          absurd (c.in_default.ensures.value n f ss (with_pieces rows row) spare rest no_part now h (All-get_or (λ (q : Part). q.who < n) ss c.loop-i.i no_part h there));
    }
