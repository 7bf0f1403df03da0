-- How a journal is read on.
use Rattle.std.proofs.Common.{◌≡◌, ℕ, ◌+◌, ◌≤◌, ◌<◌, Bool, true, false, List, length, ap, sym, subst, arith}
use Rattle.std.specs.declared.alloc.Global.{Global}
use Rattle.tab_journal.specs.Cursors.{body_of, HasTaken, TakesNext}
use Rattle.tab_journal.specs.Journals.{Batch}
use Rattle.tab_journal.specs.Readers.{Advances, WhyUnread}
use Rattle.tab_journal.specs.declared.cursor.Cursor.{Cursor}
use Rattle.tab_journal.specs.declared.read_error.ReadError.{ReadError}
use Rattle.tab_journal.specs.declared.read_error.ReadError.TheVariants.{NoMemory, TooLong, Device as OfDevice}
use Rattle.tab_journal.proofs.Taken.{read_whole}

-- a fault that is told behind calls that went well
pub why_later : (before mid now : ℕ) (e : ReadError) → before ≤ mid → WhyUnread mid now e → WhyUnread before now e
why_later before mid now NoMemory le why = tt
why_later before mid now TooLong le why = tt
why_later before mid now (OfDevice reason) le why = λ x is. let less = why x is in omega (arith, le, less)

-- how many bytes more were taken
pub more_taken : (before : ℕ) (old new : Cursor) (more : Bool) → before ≡ old.taken → TakesNext old new more → more ≡ true → before + length (body_of new) < new.taken
more_taken before old new true same t is = omega (arith, same, t.more, ap (λ (z : List ℕ). length z) t.body)
more_taken before old new false same t is = absurd cc

module _ (alloc : Global) (seen : List ℕ) (whole : Bool) (is : whole ≡ true) (old new : Cursor) (bs : List Batch) (low : 8 ≤ old.start) (h : HasTaken seen old bs) where
  pub advances : (more : Bool) → TakesNext old new more → Advances seen whole (record { alloc = alloc; cursor = new }) bs more
  advances true t = (t.batch, t.taken seen bs h, t.body)
  advances false t = subst (λ (c : Cursor). Advances seen whole (record { alloc = alloc; cursor = c }) bs false) (sym t.0) (h, is, read_whole seen old bs h low t.1)
