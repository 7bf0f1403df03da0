-- A frame that is a reply by itself.
use Rattle.std.proofs.Common.{◌≡◌, ◌≢◌, ℕ, Bool, true, ◌&&◌, cond, List, Option, refl, sym, subst}
use Rattle.std.specs.Prelude.{Result}
use Rattle.tab_key.specs.Records.{Record}
use Rattle.tab_wire.specs.declared.answer.Answer.{Answer}
use Rattle.tab_wire.specs.declared.client.ReceiveFault.{ReceiveFault}
use Rattle.tab_wire.specs.declared.reply_frame.ReplyFrame.{ReplyFrame}
use Rattle.tab_wire.specs.declared.reply_frame.ReplyFrame.TheVariants as told
use Rattle.tab_wire.specs.Answering.{SoFar, Wrong, is_empty, alone, comes, Says}

-- where nothing is listed yet, it is what it comes to
pub alone_comes : (s : SoFar) (what : ReplyFrame) (r : Result (Option Answer) ReceiveFault) (new : SoFar) → ((shown : Record) → what ≡ told.Cell shown → ⊥) → (what ≢ told.End) → ((row : List ℕ) → what ≡ told.Row row → ⊥) → (what ≢ told.RangeEnd)
    → (is_empty s.cells && (is_empty s.ranges && is_empty s.rows)) ≡ true → Says (alone what) r new → Says (comes s what) r new
alone_comes s (told.Cell shown) r new cell end row range none says = absurd (cell shown refl)
alone_comes s told.End r new cell end row range none says = absurd (end refl)
alone_comes s (told.Row text) r new cell end row range none says = absurd (row text refl)
alone_comes s told.RangeEnd r new cell end row range none says = absurd (range refl)
alone_comes s told.Done r new cell end row range none says = subst (λ (t : Bool). Says (cond t (alone told.Done) Wrong) r new) (sym none) says
alone_comes s (told.Refused x) r new cell end row range none says = subst (λ (t : Bool). Says (cond t (alone (told.Refused x)) Wrong) r new) (sym none) says
alone_comes s (told.BadFrame x) r new cell end row range none says = subst (λ (t : Bool). Says (cond t (alone (told.BadFrame x)) Wrong) r new) (sym none) says
alone_comes s (told.Opened x) r new cell end row range none says = subst (λ (t : Bool). Says (cond t (alone (told.Opened x)) Wrong) r new) (sym none) says
alone_comes s (told.Counted x) r new cell end row range none says = subst (λ (t : Bool). Says (cond t (alone (told.Counted x)) Wrong) r new) (sym none) says
alone_comes s (told.Rights x) r new cell end row range none says = subst (λ (t : Bool). Says (cond t (alone (told.Rights x)) Wrong) r new) (sym none) says
