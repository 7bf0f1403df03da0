-- For proofs. What is left of an act that was lent to a core, once it is answered.
use Rattle.std.specs.Prelude.{◌≡◌, ◌⊎◌, [], Some, map}
use Rattle.tab_key.specs.Sorted.{sorted}
use Rattle.tab_history.specs.declared.event.Act.{Act}
use Rattle.tab_history.specs.declared.event.Act.TheVariants.{Open, SetConstraints, SetAuths}
use Rattle.tab_history.specs.declared.event.Scan.{Scan}
use Rattle.tab_history.specs.declared.reply.Refusal.TheVariants.{NoMemory}
use Rattle.tab_history.specs.declared.reply.Reply.{Reply}
use Rattle.tab_history.specs.declared.reply.Reply.TheVariants.{Refused, Opened}
use Rattle.tab_history.specs.Answers.{Told, listed, query_of}
use Rattle.tab_session.specs.OpenSession.{OpenSession, opened}
use Rattle.tab_store.specs.ByRow.{records_of_all}
use Rattle.tab_store.specs.Tables.{TableState, with_tablets}
use Rattle.tab_store.specs.Tablets.{frozen}
use Rattle.tab_store.specs.Parts.{TabletMerge}

-- The act without what a core takes out of it: the columns and the authorizations of a scan, the constraints of a table, the authorizations
-- of a user. Of all other acts it takes nothing.
abbrev pub spent : Act → Act
spent (Open scan) = Open (record scan { columns = []; authorizations = [] })
spent (SetConstraints t cs) = SetConstraints t []
spent (SetAuths n auths) = SetAuths n []
spent act = act

-- what is left of an act that was told so: all of it where it was refused
abbrev pub left_of : Act → Told → Act
left_of act (Refused r) = act
left_of act told = spent act

-- A session on what the scan shows of the table is handed out: the table's tablets are frozen, and the scan is spent. Or memory lacks, and
-- both are as they were.
abbrev pub OpensOn : TableState → Scan → Reply OpenSession TabletMerge → TableState → Scan → Type 0
OpensOn table scan reply table' scan' =
    ((session : OpenSession) × (reply ≡ Opened session) × (session ≡ opened (listed (sorted (records_of_all table.tablets)) (query_of scan) (Some table.settings))) × (table' ≡ with_tablets (map frozen) table) × (Open scan' ≡ spent (Open scan)))
    ⊎ ((reply ≡ Refused NoMemory) × (table' ≡ table) × (scan' ≡ scan))
