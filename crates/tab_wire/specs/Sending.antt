-- To be believed by whoever relies on it. The bytes of each request, as a client sends them: of all spellings of a request the one that it uses.
use Rattle.std.specs.Prelude.{ℕ, ◌≡◌, ◌≤◌, ◌<◌, Bool, true, false, List, [], ◌∷◌, ◌++◌, length, Result, Ok, Err}
use Rattle.tab_key.specs.declared.column.Column.{Column}
use Rattle.tab_key.specs.declared.column.Column.TheVariants.{Family, Qualified}
use Rattle.tab_history.specs.declared.event.Scan.{Scan}
use Rattle.tab_history.specs.declared.event.Act.{Act}
use Rattle.tab_history.specs.declared.event.Act.TheVariants as act
use Rattle.tab_io.specs.Writing.{HasPut, HasPutPart}
use Rattle.tab_io.specs.declared.writing.Output.{Ghosts}
use Rattle.tab_codec.specs.Parts.{time_byte, constraint_bits}
pub use Rattle.tab_codec.specs.Spelling.{counted, bound_bytes, bounds_bytes}
use Rattle.tab_wire.specs.FrameParts.{extent_byte}
pub use Rattle.tab_wire.specs.FrameParts.{timestamp_bytes, value_part, update_bytes, mutation_bytes}
use Rattle.tab_wire.specs.Replies.{u32, i64, field, list, frame, permission_bytes}
use Rattle.tab_wire.specs.declared.request.Request.{Request}
use Rattle.tab_wire.specs.declared.request.Request.TheVariants as asks
use Rattle.tab_wire.specs.declared.client.SendFault.{SendFault}
use Rattle.tab_wire.specs.declared.client.SendFault.TheVariants as fault

-- ---- parts
abbrev pub column_bytes : Column → List ℕ
column_bytes (Family family) = field family ++ 0 ∷ []
column_bytes (Qualified family qualifier) = field family ++ 1 ∷ field qualifier

abbrev pub scan_bytes : Scan → List ℕ
scan_bytes scan = field scan.table ++ (bounds_bytes scan.bounds ++ (counted column_bytes scan.columns ++ list scan.authorizations))

-- ---- requests
-- No frame asks for a split by size, a compaction in three parts, a save or a load.
abbrev pub act_bytes : Act → List ℕ
act_bytes (act.Open scan) = 11 ∷ scan_bytes scan
act_bytes (act.Write table mutation) = 10 ∷ (field table ++ mutation_bytes mutation)
act_bytes (act.CreateTable table time versions) = 2 ∷ (field table ++ time_byte time ∷ u32 versions)
act_bytes (act.DropTable table) = 3 ∷ field table
act_bytes (act.SetConstraints table constraints) = 9 ∷ (field table ++ constraint_bits constraints ∷ [])
act_bytes (act.SetVersions table versions) = 21 ∷ (field table ++ u32 versions)
act_bytes (act.SetHorizon table horizon) = 22 ∷ (field table ++ i64 horizon)
act_bytes (act.CreateUser user) = 4 ∷ field user
act_bytes (act.DropUser user) = 5 ∷ field user
act_bytes (act.SetAuths user auths) = 6 ∷ (field user ++ list auths)
act_bytes (act.Grant user permission) = 7 ∷ (field user ++ permission_bytes permission)
act_bytes (act.Revoke user permission) = 8 ∷ (field user ++ permission_bytes permission)
act_bytes (act.Rights table) = 20 ∷ field table
act_bytes (act.Status table) = 19 ∷ field table
act_bytes (act.Flush table) = 15 ∷ field table
act_bytes (act.Compact table extent) = 16 ∷ (field table ++ extent_byte extent ∷ [])
act_bytes (act.AddSplit table row) = 17 ∷ (field table ++ field row)
act_bytes (act.Splits table) = 18 ∷ field table
act_bytes act.Rotate = 23 ∷ []
act_bytes act = []

abbrev pub request_bytes : Request → List ℕ
request_bytes (asks.Hello user) = 1 ∷ field user
request_bytes (asks.Act a) = act_bytes a
request_bytes (asks.Next slot count) = 12 ∷ (u32 slot ++ u32 count)
request_bytes (asks.Many slot ranges) = 13 ∷ (u32 slot ++ counted bounds_bytes ranges)
request_bytes (asks.Close slot) = 14 ∷ u32 slot

-- ---- sending
-- what goes before the frame of a request: Hello, on a connection where it wasn't said
abbrev pub hello_before : Bool → List ℕ → List ℕ
hello_before true user = []
hello_before false user = frame (1 ∷ field user)

-- the frame of this request was put, with Hello before it where it wasn't said; or a beginning, and the writer failed; or nothing: no frame
-- asks it, or it is longer than a frame may be, or memory lacked
abbrev pub Sends : {W : Type 0} → Ghosts W → Bool → List ℕ → Request → W → W → Result (Unit {0}) SendFault → Type 0
Sends g greeted user request old new (Ok u) = (length (request_bytes request) ≤ 8388608) × HasPut g old new (hello_before greeted user ++ frame (request_bytes request))
Sends g greeted user request old new (Err fault.Write) = HasPutPart g old new (hello_before greeted user ++ frame (request_bytes request))
Sends g greeted user request old new (Err fault.NoForm) = (request_bytes request ≡ []) × (new ≡ old)
Sends g greeted user request old new (Err fault.TooLong) = (8388608 < length (request_bytes request)) × (new ≡ old)
Sends g greeted user request old new (Err fault.NoMemory) = new ≡ old

-- whether Hello was said behind it: once it or a beginning of it was put, and else as before
abbrev pub Greets : Bool → Bool → Result (Unit {0}) SendFault → Type 0
Greets old new (Ok u) = new ≡ true
Greets old new (Err fault.Write) = new ≡ true
Greets old new (Err fault.NoForm) = new ≡ old
Greets old new (Err fault.TooLong) = new ≡ old
Greets old new (Err fault.NoMemory) = new ≡ old

-- the bytes that were gathered are the request's; or there was none, or too many, or no memory for them
abbrev pub IsGathered : Request → List ℕ → Result (Unit {0}) SendFault → Type 0
IsGathered request bytes (Ok u) = (bytes ≡ request_bytes request) × (length bytes ≤ 8388608)
IsGathered request bytes (Err fault.NoForm) = request_bytes request ≡ []
IsGathered request bytes (Err fault.Write) = ⊥
IsGathered request bytes (Err fault.TooLong) = 8388608 < length (request_bytes request)
IsGathered request bytes (Err fault.NoMemory) = Unit {0}

-- these bytes were put as a frame, with Hello before it where it wasn't said; or a beginning, and the writer failed
abbrev pub PutsFrame : {W : Type 0} → Ghosts W → Bool → List ℕ → List ℕ → W → W → Result (Unit {0}) SendFault → Type 0
PutsFrame g greeted user bytes old new (Ok u) = HasPut g old new (hello_before greeted user ++ frame bytes)
PutsFrame g greeted user bytes old new (Err fault.Write) = HasPutPart g old new (hello_before greeted user ++ frame bytes)
PutsFrame g greeted user bytes old new (Err fault.NoForm) = ⊥
PutsFrame g greeted user bytes old new (Err fault.TooLong) = ⊥
PutsFrame g greeted user bytes old new (Err fault.NoMemory) = ⊥
