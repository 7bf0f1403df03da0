-- What an event is told exactly is one of the answers that histories allow.
use Rattle.std.proofs.Common.{◌≡◌, ◌⊎◌, inl, inr, refl}
use Rattle.std.specs.Prelude.{Option, Some, None}
use Rattle.tab_history.specs.Answers.{told_begun}
use Rattle.tab_history.specs.declared.event.Act.TheVariants.{Status, AddSplit, SplitBySize, Splits, Begin, Install}
use Rattle.tab_history.specs.declared.reply.Reply.TheVariants.{Nothing}
use Rattle.tab_tablets.specs.ByRow.{ends_of}
use Rattle.tab_tablets.specs.Parts.{TabletMerge}
use Rattle.tab_store.specs.Stores.{table_in, tablets_in, counts_of}
use Rattle.tab_store.specs.Stepping.{Beginning, place_of, told_job, begun_by, lays, TellsLegally}
use Rattle.tab_store.proofs.SplitCases.{split_told, halve_told}
use Rattle.tab_store.proofs.InstallCases.{install_told}

-- a merge began, or there was nothing to merge
begin_told : (o : Option TabletMerge) → (told_job o ≡ told_begun) ⊎ (told_job o ≡ Nothing)
begin_told None = inr refl
begin_told (Some m) = inl refl

pub tells_legally : TellsLegally
unfolding lays
tells_legally h now given (Status t) plain = (counts_of (tablets_in h t), refl)
tells_legally h now given (AddSplit t row) plain = split_told plain h.tablet (tablets_in h t) row
tells_legally h now given (SplitBySize t row limit) plain = halve_told plain h.tablet (tablets_in h t) row limit
tells_legally h now given (Splits t) plain = (ends_of (tablets_in h t), refl)
tells_legally h now given (Begin t row kind) plain = begin_told (begun_by (place_of h now (table_in h t)) (Beginning row kind) (tablets_in h t))
tells_legally h now given (Install t by) plain = install_told plain (tablets_in h t) given
tells_legally h now given act plain = refl
