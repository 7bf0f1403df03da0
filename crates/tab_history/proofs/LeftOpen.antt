-- What may be told of a step: the one answer, unless that is left open.
use Rattle.std.proofs.Common.{◌≡◌, inl, [], true, false, refl, sym, ◌∙◌, ap, subst}
use mathlib.Core.Bool.{true≢false}
use Rattle.tab_history.specs.declared.event.Act.{Act}
use Rattle.tab_history.specs.declared.event.Act.TheVariants.{Status, AddSplit, SplitBySize, Splits, Begin, Install}
use Rattle.tab_history.specs.declared.event.Event.{Event as TheEvent}
use Rattle.tab_history.specs.declared.event.Step.{Step}
use Rattle.tab_history.specs.declared.event.Step.TheVariants.{Event, Next, Many, Close, Merge}
use Rattle.tab_history.specs.declared.reply.Reply.TheVariants.{Refused}
use Rattle.tab_history.specs.Answers.{Told, leaves_open, MayTell, IsEventReply, IsReply}
use Rattle.tab_history.specs.Runs.{is_left_open, one_of, one_reply}
use Rattle.tab_cells.proofs.Lists.{by_bool}

-- ---- where nothing is left open, it is the one answer
closed_told : (act : Act) (plain reply : Told) → leaves_open act ≡ false → MayTell act plain reply → reply ≡ plain
closed_told (Status t) plain reply n m = absurd (true≢false n)
closed_told (AddSplit t row) plain reply n m = absurd (true≢false n)
closed_told (SplitBySize t row limit) plain reply n m = absurd (true≢false n)
closed_told (Splits t) plain reply n m = absurd (true≢false n)
closed_told (Begin t row kind) plain reply n m = absurd (true≢false n)
closed_told (Install t given) plain reply n m = absurd (true≢false n)
closed_told act plain reply n e = e

-- ---- what holds of the one answer, and of all that may be told where it is left open, holds of what is told
pub of_told : (P : Told → Type 0) (act : Act) (plain reply : Told) → MayTell act plain reply → P plain → (leaves_open act ≡ true → P reply) → P reply
of_told P act plain reply m p f = by_bool (leaves_open act) f (λ n. subst P (sym (closed_told act plain reply n m)) p)

of_event : (P : Told → Type 0) (act : Act) (plain reply : Told) → IsEventReply act plain reply → P plain → (leaves_open act ≡ true → MayTell act plain reply → P reply) → P reply
of_event P act (Refused r) reply h p f = subst P (sym h) p
of_event P act plain reply h p f = of_told P act plain reply h p (λ o. f o h)

pub of_reply : (P : Told → Type 0) (step : Step) (plain reply : Told) → IsReply step plain reply → P plain → ((e : TheEvent) → step ≡ Event e → leaves_open e.act ≡ true → MayTell e.act plain reply → P reply) → P reply
of_reply P (Event e) plain reply h p f = of_event P e.act plain reply h p (f e refl)
of_reply P (Next user slot n) plain reply h p f = subst P (sym h) p
of_reply P (Many user slot ranges) plain reply h p f = subst P (sym h) p
of_reply P (Close user slot) plain reply h p f = subst P (sym h) p
of_reply P (Merge slot) plain reply h p f = subst P (sym h) p

pub closed_reply : (step : Step) (plain reply : Told) → is_left_open step ≡ false → IsReply step plain reply → reply ≡ plain
closed_reply step plain reply n h = of_reply (λ r. r ≡ plain) step plain reply h refl (λ e q o m. absurd (true≢false (sym (ap is_left_open q ∙ o) ∙ n)))

closed_tells : (act : Act) (plain : Told) → leaves_open act ≡ false → MayTell act plain plain
closed_tells (Status t) plain n = absurd (true≢false n)
closed_tells (AddSplit t row) plain n = absurd (true≢false n)
closed_tells (SplitBySize t row limit) plain n = absurd (true≢false n)
closed_tells (Splits t) plain n = absurd (true≢false n)
closed_tells (Begin t row kind) plain n = absurd (true≢false n)
closed_tells (Install t given) plain n = absurd (true≢false n)
closed_tells act plain n = refl

pub plain_event : (act : Act) (plain : Told) → leaves_open act ≡ false → IsEventReply act plain plain
plain_event act (Refused r) n = refl
plain_event act plain n = closed_tells act plain n

pub plain_reply : (step : Step) (plain : Told) → is_left_open step ≡ false → IsReply step plain plain
plain_reply (Event e) plain n = plain_event e.act plain n
plain_reply step plain n = refl

-- ---- a reply that may be told
one_is_told : (act : Act) (plain : Told) → MayTell act plain (one_of act plain)
one_is_told (Status t) plain = (record { tablets = 0; sources = 0; records = 0 }, refl)
one_is_told (AddSplit t row) plain = inl refl
one_is_told (SplitBySize t row limit) plain = inl refl
one_is_told (Splits t) plain = ([], refl)
one_is_told (Begin t row kind) plain = inl refl
one_is_told (Install t given) plain = inl refl
one_is_told act plain = refl

pub one_is_reply : (step : Step) (plain : Told) → IsReply step plain (one_reply step plain)
one_is_reply (Event e) (Refused r) = refl
one_is_reply (Event e) plain = one_is_told e.act plain
one_is_reply step plain = refl
