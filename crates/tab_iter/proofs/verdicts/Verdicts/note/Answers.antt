-- What is noted is of just the labels of this number.
use Rattle.std.proofs.Common.{ℕ, sym, subst}
use Rattle.tab_iter.specs.Verdicts.{Tells}
use Rattle.tab_iter.proofs.ShortLabels.{one_tells}
use Rattle.tab_iter.proofs.verdicts.Verdicts.note.Goals as goal

pub returns : goal.returns
returns c = λ auths label at right s.
    let tells : Tells auths c.told_number-number.result = subst (λ (n : ℕ). Tells auths n) (sym c.told_number-number.ensures) (one_tells auths c.args.word c.args.holds label at right) in
    (s.0, c.put_at.ensures auths tells (c.in_ok-make_room.ensures auths s.1))

pub returns-in_err-make_room : goal.returns-in_err-make_room
returns-in_err-make_room c = λ auths label at right s. (s.0, c.make_room.ensures auths s.1)
