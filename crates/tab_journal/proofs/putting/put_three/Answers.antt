use Rattle.std.proofs.Common.{◌≡◌, ◌+◌, ℕ, List, length, ap, ◌∙◌}
use Rattle.std.proofs.lemmas.List.{length-append}
use Rattle.tab_journal.proofs.Moments.{started, goes_on}
use Rattle.tab_journal.proofs.Three.{Something, something_at_first, something_of_one, something_of_two, something_of_three}
use Rattle.tab_journal.proofs.putting.put_three.Goals as goal

pub returns-in_err-append-clause-crash : goal.returns-in_err-append-clause-crash
returns-in_err-append-clause-crash g c =
    let d = c.args.device.now in
    something_of_one (length (g.D.Device.seen d)) (length c.args.first.now) (length c.args.second.now) (length c.args.third.now) (g.D.Device.may_leave d) (g.D.Device.may_leave c.append.new.self) c.append.ensures.crash

pub returns-in_err-append-clause-any_moment : goal.returns-in_err-append-clause-any_moment
returns-in_err-append-clause-any_moment g c =
    let d = c.args.device.now in
    let at = length (g.D.Device.seen d) in
    let one = length c.args.first.now in
    let two = length c.args.second.now in
    let three = length c.args.third.now in
    let P : List ℕ → Type 0 = Something at one two three (g.D.Device.may_leave d) in
    let at_start = started g.D.Device.moment g.D.Device.left_since d P (λ f left. something_at_first at one two three (g.D.Device.may_leave d) f (g.met.D.Device.only_now d f left)) in
    goes_on g.D.Device.moment g.D.Device.left_since d d c.append.new.self P _ at_start c.append.ensures.time
    (something_of_one at one two three (g.D.Device.may_leave d) (g.D.Device.may_leave c.append.new.self) c.append.ensures.crash)

pub returns-in_err-append-2-clause-crash : goal.returns-in_err-append-2-clause-crash
returns-in_err-append-2-clause-crash g c =
    let d = c.args.device.now in
    let at = length (g.D.Device.seen d) in
    let one = length c.args.first.now in
    let n = length (g.D.Device.seen c.append.new.self) in
    let is : n ≡ at + one = ap length c.in_ok-append.ensures.written ∙ length-append (g.D.Device.seen d) c.args.first.now in
    something_of_two at one (length c.args.second.now) (length c.args.third.now) (g.D.Device.may_leave d) (g.D.Device.may_leave c.append.new.self) c.append.ensures.crash (g.D.Device.may_leave c.append-2.new.self) n is c.append-2.ensures.crash

pub returns-in_err-append-2-clause-any_moment : goal.returns-in_err-append-2-clause-any_moment
returns-in_err-append-2-clause-any_moment g c =
    let d = c.args.device.now in
    let at = length (g.D.Device.seen d) in
    let one = length c.args.first.now in
    let two = length c.args.second.now in
    let three = length c.args.third.now in
    let n = length (g.D.Device.seen c.append.new.self) in
    let is : n ≡ at + one = ap length c.in_ok-append.ensures.written ∙ length-append (g.D.Device.seen d) c.args.first.now in
    let P : List ℕ → Type 0 = Something at one two three (g.D.Device.may_leave d) in
    let at_start = started g.D.Device.moment g.D.Device.left_since d P (λ f left. something_at_first at one two three (g.D.Device.may_leave d) f (g.met.D.Device.only_now d f left)) in
    let behind = goes_on g.D.Device.moment g.D.Device.left_since d d c.append.new.self P _ at_start c.append.ensures.time
    (something_of_one at one two three (g.D.Device.may_leave d) (g.D.Device.may_leave c.append.new.self) c.append.ensures.crash) in
    goes_on g.D.Device.moment g.D.Device.left_since d c.append.new.self c.append-2.new.self P _ behind c.append-2.ensures.time
    (something_of_two at one two three (g.D.Device.may_leave d) (g.D.Device.may_leave c.append.new.self) c.append.ensures.crash (g.D.Device.may_leave c.append-2.new.self) n is c.append-2.ensures.crash)

pub returns-clause-crash : goal.returns-clause-crash
returns-clause-crash g c =
    let d = c.args.device.now in
    let at = length (g.D.Device.seen d) in
    let one = length c.args.first.now in
    let two = length c.args.second.now in
    let n = length (g.D.Device.seen c.append.new.self) in
    let m = length (g.D.Device.seen c.append-2.new.self) in
    let is : n ≡ at + one = ap length c.in_ok-append.ensures.written ∙ length-append (g.D.Device.seen d) c.args.first.now in
    let more : m ≡ n + two = ap length c.in_ok-append-2.ensures.written ∙ length-append (g.D.Device.seen c.append.new.self) c.args.second.now in
    something_of_three at one two (length c.args.third.now) (g.D.Device.may_leave d) (g.D.Device.may_leave c.append.new.self) c.append.ensures.crash (g.D.Device.may_leave c.append-2.new.self) n is c.append-2.ensures.crash
    (g.D.Device.may_leave c.append-3.new.self) m more c.append-3.ensures.crash

pub returns-clause-any_moment : goal.returns-clause-any_moment
returns-clause-any_moment g c =
    let d = c.args.device.now in
    let at = length (g.D.Device.seen d) in
    let one = length c.args.first.now in
    let two = length c.args.second.now in
    let three = length c.args.third.now in
    let n = length (g.D.Device.seen c.append.new.self) in
    let m = length (g.D.Device.seen c.append-2.new.self) in
    let is : n ≡ at + one = ap length c.in_ok-append.ensures.written ∙ length-append (g.D.Device.seen d) c.args.first.now in
    let more : m ≡ n + two = ap length c.in_ok-append-2.ensures.written ∙ length-append (g.D.Device.seen c.append.new.self) c.args.second.now in
    let P : List ℕ → Type 0 = Something at one two three (g.D.Device.may_leave d) in
    let at_start = started g.D.Device.moment g.D.Device.left_since d P (λ f left. something_at_first at one two three (g.D.Device.may_leave d) f (g.met.D.Device.only_now d f left)) in
    let behind = goes_on g.D.Device.moment g.D.Device.left_since d d c.append.new.self P _ at_start c.append.ensures.time
    (something_of_one at one two three (g.D.Device.may_leave d) (g.D.Device.may_leave c.append.new.self) c.append.ensures.crash) in
    let again = goes_on g.D.Device.moment g.D.Device.left_since d c.append.new.self c.append-2.new.self P _ behind c.append-2.ensures.time
    (something_of_two at one two three (g.D.Device.may_leave d) (g.D.Device.may_leave c.append.new.self) c.append.ensures.crash (g.D.Device.may_leave c.append-2.new.self) n is c.append-2.ensures.crash) in
    goes_on g.D.Device.moment g.D.Device.left_since d c.append-2.new.self c.append-3.new.self P _ again c.append-3.ensures.time
    (something_of_three at one two three (g.D.Device.may_leave d) (g.D.Device.may_leave c.append.new.self) c.append.ensures.crash (g.D.Device.may_leave c.append-2.new.self) n is c.append-2.ensures.crash
    (g.D.Device.may_leave c.append-3.new.self) m more c.append-3.ensures.crash)
