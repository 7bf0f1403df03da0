use Rattle.std.proofs.Common.{rules, ◌≡◌, ℤ, [], None, subst, to_z, of_z, w64}
use Rattle.tab_core.specs.Recording.{RefinesHistory}
use Rattle.tab_core.specs.Rotating.{raised}
use Rattle.tab_core.specs.Stores.{CoreContents, base_of}
use Rattle.tab_book.specs.Receipts.{Applies}
use Rattle.tab_book.specs.Rotating.{rotation}
use Rattle.tab_book.proofs.Anew.{rotates_none, rotates_some}
use Rattle.tab_book.proofs.book.Book.rotate_reserved.Goals as goal

pub returns-then-not-was_done-clause-ok : goal.returns-then-not-was_done-clause-ok
returns-then-not-was_done-clause-ok g c =
    let trip : to_z w64 (of_z w64 c.args.moment) ≡ c.args.moment = search rules in
    let applied : Applies c.args.self.now c.args.seat.now None (rotation c.args.user.now c.args.moment) c.in_ok-receipt.receipt c.apply_rotation.new.self c.apply_rotation.new.seat =
    subst (λ (m : ℤ). Applies c.args.self.now c.args.seat.now None (rotation c.args.user.now m) c.in_ok-receipt.receipt c.apply_rotation.new.self c.apply_rotation.new.seat) trip c.in_ok-receipt.ensures.ok in
    rotates_none c.args.self.now c.apply_rotation.new.self c.args.seat.now c.apply_rotation.new.seat c.args.user.now c.args.moment c.in_ok-receipt.receipt c.was_done.result applied c.was_done.ensures c.if-not-was_done.true

pub returns-clause-ok : goal.returns-clause-ok
returns-clause-ok g c =
    let trip : to_z w64 (of_z w64 c.args.moment) ≡ c.args.moment = search rules in
    let applied : Applies c.args.self.now c.args.seat.now None (rotation c.args.user.now c.args.moment) c.in_ok-receipt.receipt c.apply_rotation.new.self c.apply_rotation.new.seat =
    subst (λ (m : ℤ). Applies c.args.self.now c.args.seat.now None (rotation c.args.user.now m) c.in_ok-receipt.receipt c.apply_rotation.new.self c.apply_rotation.new.seat) trip c.in_ok-receipt.ensures.ok in
    let begins : RefinesHistory c.args.self.now.core (base_of c.args.self.now.core) [] = subst (λ (h : CoreContents). RefinesHistory h (base_of h) []) c.core-2.ensures c.begins.ensures in
    let up : c.raise.new.self ≡ raised c.args.moment (base_of c.args.self.now.core) = search rules in
    rotates_some c.args.self.now c.apply_rotation.new.self c.begin_anew-part.new.self c.args.seat.now c.apply_rotation.new.seat c.args.user.now c.args.moment c.in_ok-receipt.receipt c.begin_anew-part.result c.raise.new.self begins c.book_is_legal.ensures.refines applied (c.was_done.ensures.0 c.if-not-was_done.false) up c.begin_anew-part.ensures.part c.begin_anew-part.ensures.book
