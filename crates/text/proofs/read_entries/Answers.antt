-- The lines of a text. Assumes nothing.
use Rattle.std.proofs.Common.{rules, eqb, ◌≡◌, ℕ, ◌-◌, ◌<◌, List, [], ◌∷◌, ◌++◌, length, Ok, Err, vec_items, Result, sym, ap, ◌∙◌, inl, inr, arith}
use Rattle.std.proofs.lemmas.List.{map_push, length-map, length_push, length-append}
use Rattle.lines.specs.Grammar.{Line, said_by}
use Rattle.lines.specs.declared.Entry.{Entry}
use Rattle.text.specs.declared.Fault.{Fault}
use Rattle.text.specs.Reading.{fault, Next, said_in, next_line, lines_in}
use Rattle.std.specs.Iterator.Adapters.{take_source, take_count}
use Rattle.std.specs.Slice.Iter.{split_inclusive_rest}
use Rattle.std.proofs.lemmas.Bool.{cases_lt}
use Rattle.std.proofs.lemmas.List.Sorted.{answers_always}
use Rattle.std.proofs.lemmas.Result.{err_from_is_err_and, IfOk-from_err}
use Rattle.text.specs.declared.Reason.{Reason}
use Rattle.text.specs.declared.Reason.TheVariants.{TooMany}
use Rattle.text.specs.Outcomes.{FirstLine, next_said, with_line}
use Rattle.text.proofs.FirstLines.{first_line}
use Rattle.text.proofs.Failing.{told_line}
use Rattle.text.proofs.Collecting.{lines_more, lines_fault, lines_all, next_many}
use Rattle.text.proofs.read_entries.Goals as goal

module _ (es later : List Entry) (bs : List ℕ) (P : Result (List Line) Fault) where
  one_more : (e : Entry) (x : Next) → later ≡ es ++ (e ∷ []) → x.line ≡ said_by e → 0 < length bs → Ok x ≡ next_line (said_in es) bs →
      lines_in (65 - length (said_in es)) bs (said_in es) ≡ P → lines_in (65 - length (said_in later)) x.rest (said_in later) ≡ P
  one_more e x q w h n inv =
      let same : said_in later ≡ said_in es ++ (x.line ∷ []) = ap said_in q ∙ (map_push (λ y. said_by y) es e ∙ ap (λ (l : Line). said_in es ++ (l ∷ [])) (sym w)) in
      ap (λ (ls : List Line). lines_in (65 - length ls) x.rest ls) same ∙ lines_more (said_in es) bs P x h (sym n) inv

-- the line that was read, or why it is refused
given : (i : ℕ) (rest : List ℕ) (r : Result Entry Reason) (x : Entry) (P : Result Next Reason) → Ok x ≡ with_line i r → next_said rest r ≡ P → next_said rest (Ok x) ≡ P
given i rest (Ok q) x P e h = let same : x ≡ q = cc in ap (λ (y : Entry). next_said rest (Ok y)) same ∙ h
given i rest (Err r) x P e h = absurd (grind arith)

refused : (i : ℕ) (rest : List ℕ) (r : Result Entry Reason) (e : Fault) (P : Result Next Reason) → Err e ≡ with_line i r → next_said rest r ≡ P →
    (x : Reason) × (Err x ≡ P) × (e ≡ fault i x)
refused i rest (Ok q) e P q' h = absurd (grind arith)
refused i rest (Err r) e P q' h = (r, h, cc)

pub loop-line-preserved : goal.loop-line-preserved
loop-line-preserved c =
    let es = vec_items c.loop-line.entries in
    let steps = c.in-Some.ensures.steps.0 in
    let bs = split_inclusive_rest (take_source c.loop-line.line-iterator) in
    let behind = split_inclusive_rest (take_source c.next.new.self) in
    let first : FirstLine bs c.in-Some.line.now behind =
    first_line bs c.in-Some.line.now behind steps.1.0 steps.0 steps.1.1 (steps.1.2 (λ b. eqb b 10) (answers_always _ _ _ (λ f a r g h. search rules))).1
    in
    let x : Next = record { line = said_by c.in_ok-entry.entry; rest = behind } in
    let got = given _ behind c.read_entry.result c.in_ok-entry.entry _ c.in_ok-entry.ensures.value (c.read_entry.ensures.value bs behind first) in
    let more =
    one_more es (vec_items c.push.new.self) bs (lines_in 65 c.args.input.now []) c.in_ok-entry.entry x c.in_ok-push.ensures.items (λ i. x.line) steps.2
    (got ∙ ap (λ (ys : List Entry). next_line (said_in ys) bs) c.as_slice.ensures.value) c.loop-line.invariant.value
    in
    record {
      next = search rules;
      ends = search rules;
      value = more;
      few = omega (arith, c.in-Some.ensures.steps.1, c.loop-line.invariant.few, ap length c.in_ok-push.ensures.items, length_push es c.in_ok-entry.entry);
      read = omega (arith, c.loop-line.invariant.read, ap length steps.0, length-append c.in-Some.line.now behind);
    }

pub returns-in_err-entry : goal.returns-in_err-entry
returns-in_err-entry c =
    let es = vec_items c.loop-line.entries in
    let steps = c.in-Some.ensures.steps.0 in
    let bs = split_inclusive_rest (take_source c.loop-line.line-iterator) in
    let behind = split_inclusive_rest (take_source c.next.new.self) in
    let first : FirstLine bs c.in-Some.line.now behind =
    first_line bs c.in-Some.line.now behind steps.1.0 steps.0 steps.1.1 (steps.1.2 (λ b. eqb b 10) (answers_always _ _ _ (λ f a r g h. search rules))).1
    in
    let p = err_from_is_err_and c.from_residual.result c.from_residual.ensures.1 in
    let r = refused _ behind c.read_entry.result c.in_err-entry.field-0.0 _ c.in_err-entry.ensures.value (c.read_entry.ensures.value bs behind first) in
    record {
      value =
          told_line _ c.from_residual.result (lines_in 65 c.args.input.now []) c.in_err-entry.field-0.0 p
          (ap Err r.2
          ∙ (ap (λ (n : ℕ). Err (fault n r.0)) (omega (arith, c.len-number.ensures, c.loop-line.entries.ok.0, length-map es (λ y. said_by y)))
          ∙ lines_fault (said_in es) bs (lines_in 65 c.args.input.now []) r.0 steps.2 (omega (arith, length-map es (λ y. said_by y), c.loop-line.invariant.few))
          (sym (r.1 ∙ ap (λ (ys : List Entry). next_line (said_in ys) bs) c.as_slice.ensures.value)) c.loop-line.invariant.value));
      few = IfOk-from_err c.from_residual.result _ c.from_residual.ensures.0;
    }

-- a line is left, behind 64
pub returns-then-read-input : goal.returns-then-read-input
returns-then-read-input c =
    let es = vec_items c.loop-line.entries in
    let bs = split_inclusive_rest (take_source c.loop-line.line-iterator) in
    let left : 0 < length bs = omega (arith, c.loop-line.invariant.read) in
    let many : length (said_in es) ≡ 64 = elim (cases_lt 0 (take_count c.loop-line.line-iterator)) [
      | inl more ↦ absurd (omega (arith, left, c.in-None.ensures.steps more))
      | inr none ↦ omega (arith, none, c.loop-line.invariant.few, length-map es (λ y. said_by y))
    ] in
    record {
      value =
          ap (λ (n : ℕ). Err (fault n TooMany)) (sym many)
          ∙ lines_fault (said_in es) bs (lines_in 65 c.args.input.now []) TooMany left (omega (arith, many)) (sym (next_many (said_in es) bs (omega (arith, many)))) c.loop-line.invariant.value;
      few = tt;
    }

pub returns : goal.returns
returns c =
    record {
      value =
          lines_all (said_in (vec_items c.loop-line.entries)) (split_inclusive_rest (take_source c.loop-line.line-iterator)) (lines_in 65 c.args.input.now [])
          (omega (arith, c.loop-line.invariant.read)) c.loop-line.invariant.value;
      few = omega (arith, c.loop-line.invariant.few);
    }
