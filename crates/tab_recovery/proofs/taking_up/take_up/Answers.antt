use Rattle.std.proofs.Common.{ℕ, List, false, take, refl, sym, subst, ap, ◌∙◌}
use Rattle.tab_journal.specs.Readers.{Ends}
use Rattle.tab_journal.specs.declared.journal_end.JournalEnd.{JournalEnd}
use Rattle.tab_journal.proofs.Moments.{started, weaker}
use Rattle.tab_recovery.specs.Cutting.{Cut}
use Rattle.tab_recovery.specs.TakingUp.{KeepsAll}
use Rattle.tab_recovery.proofs.Beginnings.{end_told, all_counted, ends_cut}
use Rattle.tab_recovery.proofs.Taking.{keeps_still, keeps_cut, keeps_end}
use Rattle.tab_recovery.proofs.taking_up.take_up.Goals as goal

pub cut_to-requires : goal.cut_to-requires
cut_to-requires g c = record {
  usable = c.requires.usable;
  counted = all_counted (g.D.Device.seen c.args.device.now) c.args.end.now c.requires.read;
  settled = c.requires.settled;
}

pub returns-then-end-clause-any_moment : goal.returns-then-end-clause-any_moment
returns-then-end-clause-any_moment g c =
    let d = c.args.device.now in
    let bytes = g.D.Device.seen d in
    started g.D.Device.moment g.D.Device.left_since d (KeepsAll bytes)
    (λ f left. keeps_still bytes bytes (g.D.Device.may_leave d) refl c.requires.settled f (g.met.D.Device.only_now d f left))

pub returns-in_err-cut_to-clause-any_moment : goal.returns-in_err-cut_to-clause-any_moment
returns-in_err-cut_to-clause-any_moment g c =
    let d = c.args.device.now in
    let bytes = g.D.Device.seen d in
    let ends = c.requires.read in
    weaker g.D.Device.moment g.D.Device.left_since d c.cut_to.new.device (Cut c.args.end.now.length bytes) (KeepsAll bytes)
    (keeps_cut bytes bytes c.args.end.now.length ends.fits refl (end_told bytes c.args.end.now ends)) c.cut_to.ensures.any_moment

pub returns-clause-cut : goal.returns-clause-cut
returns-clause-cut g c =
    let bytes = g.D.Device.seen c.args.device.now in
    c.in_ok-cut_to.ensures.cut ∙ ap (λ (k : ℕ). take k bytes) (end_told bytes c.args.end.now c.requires.read)

pub returns-clause-read : goal.returns-clause-read
returns-clause-read g c =
    let bytes = g.D.Device.seen c.args.device.now in
    let made : JournalEnd = record c.args.end.now { left = 0; is_damaged = false } in
    subst (λ (z : List ℕ). Ends z made) (sym c.in_ok-cut_to.ensures.cut) (ends_cut bytes c.args.end.now made c.requires.read refl)

pub returns-clause-keeps : goal.returns-clause-keeps
returns-clause-keeps g c =
    let bytes = g.D.Device.seen c.args.device.now in
    let ends = c.requires.read in
    keeps_end bytes bytes c.args.end.now.length ends.fits refl (end_told bytes c.args.end.now ends) (g.D.Device.seen c.cut_to.new.device) c.in_ok-cut_to.ensures.cut

pub returns-clause-any_moment : goal.returns-clause-any_moment
returns-clause-any_moment g c =
    let d = c.args.device.now in
    let bytes = g.D.Device.seen d in
    let ends = c.requires.read in
    weaker g.D.Device.moment g.D.Device.left_since d c.cut_to.new.device (Cut c.args.end.now.length bytes) (KeepsAll bytes)
    (keeps_cut bytes bytes c.args.end.now.length ends.fits refl (end_told bytes c.args.end.now ends)) c.cut_to.ensures.any_moment
