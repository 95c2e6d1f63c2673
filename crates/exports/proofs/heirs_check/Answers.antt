use Rattle.std.proofs.Common.{◌≡◌, ◌≤◌, length, pos, arith, w64, to_z}
use Rattle.std.proofs.lemmas.Int.{to_z_pos}
use Rattle.law.specs.Promise.{all_calls}
use Rattle.people.specs.Layout.{limit_in, count_in}
use Rattle.service.specs.Desks.{bytes_asked}
use Rattle.register.proofs.Promises.{resumed_right}
use Rattle.exports.proofs.heirs_check.Goals as goal

pub returns : goal.returns
returns c =
    let ws = c.args.memory.now in
    let ok = c.is_sound.ensures.yes c.if-not-is_sound.false in
    let room : bytes_asked (limit_in ws) ≤ length c.args.answer.now = omega (arith, c.if-answer-bytes_asked.false, c.bytes_asked.ensures.value) in
    let count : to_z w64 (count_in ws) ≡ pos (count_in ws) = to_z_pos w64 (count_in ws) (omega (arith, c.type_inv.memory 1)) in
    record {
      checked =
          record {
            yes = λ _. count;
            exact = λ k e. (ok, room);
            no_register = λ none. absurd (none ok);
            too_small = λ _ less. absurd (omega arith);
            promised = λ k e rest cs. resumed_right all_calls ws rest cs ok;
          };
    }
