-- Lines are exactly what is read of their words.
use Rattle.std.proofs.Common.{ℕ, ◌≡◌, ◌≢◌, ◌==◌, true, false, cond, List, [], ◌∷◌, refl, sym, ap, ◌∙◌, subst, arith, Some, None, Option}
use Rattle.std.specs.Prelude.{ℤ, codes}
use Rattle.std.specs.Option.{option_map}
use Rattle.std.specs.Str.{bytes_eq}
use Rattle.std.proofs.lemmas.Bool.Decides.{nat_tests}
use Rattle.std.proofs.lemmas.Slice.Eq.{bytes_eq-Decides}
use Rattle.tab_key.specs.declared.range.Bound.{Bound}
use Rattle.tab_key.specs.declared.range.Bound.TheVariants.{Unbounded}
use Rattle.tab_key.specs.declared.range.Bounds.{Bounds}
use Rattle.tab_key.specs.declared.column.Column.{Column}
use Rattle.tab_label.specs.Sets.{set_of}
use Rattle.tab_mutation.specs.Mutations.{Mutation, Update, with_update}
use Rattle.tab_rules.specs.Constraints.{constraint_set_of}
use Rattle.tab_rules.specs.declared.constraint.Constraint.{Constraint}
use Rattle.tab_policy.specs.declared.permission.Permission.{Permission}
use Rattle.tab_history.specs.declared.event.Extent.{Extent}
use Rattle.tab_history.specs.declared.event.Extent.TheVariants.{Partial, Full}
use Rattle.tab_history.specs.declared.event.TimeMode.{TimeMode}
use Rattle.tab_history.specs.declared.event.TimeMode.TheVariants.{Any, Server}
use Rattle.tab_history.specs.declared.event.Act.TheVariants as act
use Rattle.tab_history.specs.declared.event.Scan.{Scan}
use Rattle.tab_lines.specs.declared.line.Line.{Line}
use Rattle.tab_lines.specs.declared.line.Line.TheVariants as says
use Rattle.tab_lines.specs.declared.command.Command.{Command}
use Rattle.tab_lines.specs.declared.command.Command.TheVariants as command
use Rattle.tab_lines.specs.declared.file_line.FileKind.TheVariants.{Save, Load}
use Rattle.tab_lines.specs.declared.updates.TimestampForm.TheVariants.{Optional}
use Rattle.tab_lines.specs.Gives.{field, ends, optional}
use Rattle.tab_lines.specs.Words.{words_of}
use Rattle.tab_text.specs.Words.{IsWord}
use Rattle.tab_text.specs.Reading.{bytes_of}
use Rattle.tab_lines.specs.Fields.{name_of, signed_of, time_word, extent_word, versions_word, list_of, constraints_of, bound_of, columns_of}
use Rattle.tab_lines.specs.Updates.{row_of, with_updates, put_of, delete_of, updates_of}
use Rattle.tab_lines.specs.Lines.{name_alone, grant_of, settings_at, settings, createtable_of, setauths_of, constraints_line_of, insert_of, delete_line_of, mutate_of, bounds_of, scan_words, compact_of, rotate_of, at_of, command_of, commanded, said, is_comment, line_of}
use Rattle.tab_lines.specs.Forms.{IsNameWord, IsNumber, IsList, IsConstraint, IsBound, IsVersions, time_name, extent_name, AreSettings, IsPermission, IsLastTimestamp, AreUpdates, AreLimits, IsScan, Form, IsLine, LinesAreForms}
use Rattle.tab_lines.specs.Forms.AreSettings.{neither as set_neither, time as set_time, versions as set_versions, both as set_both}
use Rattle.tab_lines.specs.Forms.AreLimits.{all as limit_all, rows as limit_rows, columns as limit_columns}
use Rattle.tab_lines.specs.Forms.IsScan.{asks as scan_asks}
use Rattle.tab_lines.specs.Forms.Form.{blank as form_blank, asker as form_asker, at as form_at, createtable as form_createtable, droptable as form_droptable, createuser as form_createuser, dropuser as form_dropuser, setauths as form_setauths, grant as form_grant, revoke as form_revoke, rights as form_rights, constraints as form_constraints, versions as form_versions, horizon as form_horizon, insert as form_insert, delete as form_delete, mutate as form_mutate, scan as form_scan, opened as form_opened, next as form_next, many as form_many, close as form_close, flush as form_flush, compact as form_compact, begin as form_begin, merge as form_merge, install as form_install, status as form_status, addsplit as form_addsplit, splitsize as form_splitsize, splits as form_splits, save as form_save, load as form_load, rotate as form_rotate}
use Rattle.tab_lines.specs.Forms.IsLine.{comment as line_comment, words as line_words}
use Rattle.tab_lines.proofs.WordLaw.{words_read}
use Rattle.tab_lines.proofs.WordsLaw.{words_sound, words_complete}
use Rattle.tab_lines.proofs.NumberLaw.{numbers_read, versions_read}
use Rattle.tab_lines.proofs.ListLaw.{names_read, lists_read, constraints_read, bounds_read}
use Rattle.tab_lines.proofs.ColumnLaw.{columns_read}
use Rattle.tab_lines.proofs.PermissionLaw.{on_name_alone, name_alone_complete, on_grant, grant_complete}
use Rattle.tab_lines.proofs.SessionLaw.{next_sound, next_complete, many_sound, many_complete, close_sound, close_complete}
use Rattle.tab_lines.proofs.JobLaw.{begin_sound, begin_complete, merge_sound, merge_complete, install_sound, install_complete}
use Rattle.tab_lines.proofs.SettingLaw.{versions_line_sound, versions_line_complete, horizon_sound, horizon_complete}
use Rattle.tab_lines.proofs.SplitLaw.{addsplit_sound, addsplit_complete, splitsize_sound, splitsize_complete}
use Rattle.tab_lines.proofs.FileLaw.{file_sound, file_complete}
use Rattle.tab_lines.proofs.UpdateLaw.{put_with, delete_with, on_put, put_complete, on_delete, delete_complete, last_timestamp, last_complete, updates_sound, updates_complete}
use Rattle.tab_lines.proofs.Inverting.{Words, some_inj, bind_some, field_some, on_bind, on_map, on_field, on_read, on_ends, on_optional, on_cond}

-- no word is left
ends_none : (words end : Words) → ends words ≡ Some end → words ≡ []
ends_none [] end is = refl
ends_none (word ∷ words) end is = absurd cc

-- ---- what a compaction merges

extent_sound : (word : List ℕ) (extent : Extent) → extent_word word ≡ Some extent → word ≡ extent_name extent
extent_sound word extent is =
    on_cond (bytes_eq word (codes "partial")) (Some Partial) _ extent (word ≡ extent_name extent) is
    (λ yes e. (bytes_eq-Decides word (codes "partial")).0 yes ∙ ap extent_name (some_inj Partial extent e))
    (λ no e. on_cond (bytes_eq word (codes "full")) (Some Full) _ extent (word ≡ extent_name extent) e
    (λ yes e2. (bytes_eq-Decides word (codes "full")).0 yes ∙ ap extent_name (some_inj Full extent e2))
    (λ no2 e2. absurd cc))

extent_complete : (extent : Extent) → extent_word (extent_name extent) ≡ Some extent
extent_complete Partial = refl
extent_complete Full = refl

-- ---- the settings of a new table

time_sound : (word : List ℕ) (mode : TimeMode) → time_word word ≡ Some mode → word ≡ time_name mode
time_sound word mode is =
    on_cond (bytes_eq word (codes "time=any")) (Some Any) _ mode (word ≡ time_name mode) is
    (λ yes e. (bytes_eq-Decides word (codes "time=any")).0 yes ∙ ap time_name (some_inj Any mode e))
    (λ no e. on_cond (bytes_eq word (codes "time=server")) (Some Server) _ mode (word ≡ time_name mode) e
    (λ yes e2. (bytes_eq-Decides word (codes "time=server")).0 yes ∙ ap time_name (some_inj Server mode e2))
    (λ no2 e2. absurd cc))

-- a word for the versions is none for the timestamps
versions_no_time : (word : List ℕ) (n : ℕ) → IsVersions word n → time_word word ≡ None
versions_no_time word n (digits, e, count) = ap (λ (w : List ℕ). time_word w) e

settings_sound : (words : Words) (mode : TimeMode) (n : ℕ) → settings words ≡ Some (mode, n) → AreSettings words mode n
settings_sound [] mode n is =
    let e : ◌≡◌ {A = TimeMode × ℕ} (Any, 1) (mode, n) = some_inj (Any, 1) (mode, n) is in
    subst (λ (p : TimeMode × ℕ). AreSettings [] p.0 p.1) e set_neither
settings_sound (word ∷ words) mode n is =
    elim (time_word word) as (λ r. time_word word ≡ r → settings_at r word words ≡ Some (mode, n) → AreSettings (word ∷ words) mode n) [
      | None ↦ λ no e.
          on_bind (versions_word word) _ (mode, n) (AreSettings (word ∷ words) mode n) e (λ k read e2.
          on_ends words _ (mode, n) (λ ws. AreSettings (word ∷ ws) mode n) e2 (λ e3.
          let p : ◌≡◌ {A = TimeMode × ℕ} (Any, k) (mode, n) = some_inj (Any, k) (mode, n) e3 in
          subst (λ (p : TimeMode × ℕ). AreSettings (word ∷ []) p.0 p.1) p (set_versions word k (versions_read.sound word k read))))
      | Some m ↦ λ yes e.
          let named : word ≡ time_name m = time_sound word m yes in
          subst (λ (w : List ℕ). AreSettings (w ∷ words) mode n) (sym named)
          (on_optional 1 versions_word words _ (mode, n) (λ ws. AreSettings (time_name m ∷ ws) mode n) e
          (λ e2.
          let p : ◌≡◌ {A = TimeMode × ℕ} (m, 1) (mode, n) = some_inj (m, 1) (mode, n) e2 in
          subst (λ (p : TimeMode × ℕ). AreSettings (time_name m ∷ []) p.0 p.1) p (set_time m))
          (λ v rest k read e2.
          on_ends rest _ (mode, n) (λ ws. AreSettings (time_name m ∷ v ∷ ws) mode n) e2 (λ e3.
          let p : ◌≡◌ {A = TimeMode × ℕ} (m, k) (mode, n) = some_inj (m, k) (mode, n) e3 in
          subst (λ (p : TimeMode × ℕ). AreSettings (time_name m ∷ v ∷ []) p.0 p.1) p (set_both m v k (versions_read.sound v k read)))))
    ] refl is

time_complete : (mode : TimeMode) → time_word (time_name mode) ≡ Some mode
time_complete Any = refl
time_complete Server = refl

settings_complete : (words : Words) (mode : TimeMode) (n : ℕ) → AreSettings words mode n → settings words ≡ Some (mode, n)
settings_complete words mode n set_neither = refl
settings_complete words mode n (set_time m) = ap (λ (o : Option TimeMode). settings_at o (time_name m) []) (time_complete m)
settings_complete words mode n (set_versions v k is) =
    ap (λ (o : Option TimeMode). settings_at o v []) (versions_no_time v k is)
    ∙ bind_some (versions_word v) k _ _ (versions_read.complete v k is) refl
settings_complete words mode n (set_both m v k is) =
    ap (λ (o : Option TimeMode). settings_at o (time_name m) (v ∷ [])) (time_complete m)
    ∙ bind_some (optional 1 versions_word (v ∷ [])) (k, []) _ _ (field_some versions_word v [] k (versions_read.complete v k is)) refl

-- ---- the limits of a scan

-- the columns behind both ends of the range
columns_at : (l h : List ℕ) (low high : Bound) (columns : List Column) (ws : Words) → IsBound l low → IsBound h high → optional [] columns_of ws ≡ Some (columns, [])
    → AreLimits (l ∷ h ∷ ws) (record { low = low; high = high }) columns
columns_at l h low high columns [] b1 b2 is =
    let e : ◌≡◌ {A = List Column × Words} ([], []) (columns, []) = some_inj ([], []) (columns, []) is in
    subst (λ (cs : List Column). AreLimits (l ∷ h ∷ []) (record { low = low; high = high }) cs) (ap (λ (p : List Column × Words). p.0) e) (limit_rows l h low high b1 b2)
columns_at l h low high columns (word ∷ words) b1 b2 is =
    on_read columns_of (word ∷ words) columns [] (λ ws. AreLimits (l ∷ h ∷ ws) (record { low = low; high = high }) columns) is (λ w read.
    limit_columns l h w low high columns b1 b2 (columns_read.sound w columns read))

limits_sound : (words : Words) (b : Bounds × Words) (c : List Column × Words) → bounds_of words ≡ Some b → optional [] columns_of b.1 ≡ Some c → c.1 ≡ [] → AreLimits words b.0 c.0
limits_sound [] b c is1 is2 end =
    let e : ◌≡◌ {A = Bounds × Words} (record { low = Unbounded; high = Unbounded }, []) b = some_inj _ b is1 in
    let none : b.1 ≡ [] = sym (ap (λ (p : Bounds × Words). p.1) e) in
    let e2 : ◌≡◌ {A = List Column × Words} ([], []) c = some_inj ([], []) c (sym (ap (λ (ws : Words). optional [] columns_of ws) none) ∙ is2) in
    subst (λ (cs : List Column). AreLimits [] b.0 cs) (ap (λ (p : List Column × Words). p.0) e2) (subst (λ (bs : Bounds). AreLimits [] bs []) (ap (λ (p : Bounds × Words). p.0) e) limit_all)
limits_sound (word ∷ words) b c is1 is2 end =
    on_field bound_of (word ∷ words) _ b (λ ws. AreLimits ws b.0 c.0) is1 (λ l ws1 low e1 f1.
    on_field bound_of ws1 _ b (λ ws. AreLimits (l ∷ ws) b.0 c.0) f1 (λ h ws2 high e2 f2.
    let e : ◌≡◌ {A = Bounds × Words} (record { low = low; high = high }, ws2) b = some_inj _ b f2 in
    let left : ws2 ≡ b.1 = ap (λ (p : Bounds × Words). p.1) e in
    let rest : optional [] columns_of ws2 ≡ Some (c.0, []) = ap (λ (ws : Words). optional [] columns_of ws) left ∙ is2 ∙ ap (λ (ws : Words). Some (c.0, ws)) end in
    subst (λ (bs : Bounds). AreLimits (l ∷ h ∷ ws2) bs c.0) (ap (λ (p : Bounds × Words). p.0) e) (columns_at l h low high c.0 ws2 (bounds_read.sound l low e1) (bounds_read.sound h high e2) rest)))

limits_complete : (words : Words) (bounds : Bounds) (columns : List Column) → AreLimits words bounds columns → (rest : Words) × (bounds_of words ≡ Some (bounds, rest)) × (optional [] columns_of rest ≡ Some (columns, []))
limits_complete words bounds columns limit_all = ([], refl, refl)
limits_complete words bounds columns (limit_rows l h low high b1 b2) = (
  [],
  bind_some (field bound_of (l ∷ h ∷ [])) (low, h ∷ []) _ _ (field_some bound_of l (h ∷ []) low (bounds_read.complete l low b1))
      (bind_some (field bound_of (h ∷ [])) (high, []) _ _ (field_some bound_of h [] high (bounds_read.complete h high b2)) refl),
  refl,
)
limits_complete words bounds columns (limit_columns l h c low high cs b1 b2 list) = (
  c ∷ [],
  bind_some (field bound_of (l ∷ h ∷ c ∷ [])) (low, h ∷ c ∷ []) _ _ (field_some bound_of l (h ∷ c ∷ []) low (bounds_read.complete l low b1))
      (bind_some (field bound_of (h ∷ c ∷ [])) (high, c ∷ []) _ _ (field_some bound_of h (c ∷ []) high (bounds_read.complete h high b2)) refl),
  field_some columns_of c [] cs (columns_read.complete c cs list),
)

-- ---- lines, one function for each

-- what a mutation without updates is
row_sound : (word : List ℕ) (m : Mutation) → row_of word ≡ Some m → (row : List ℕ) × IsWord word row × (m ≡ record { row = row; updates = [] })
row_sound word m is = on_map (λ row. record { row = row; updates = [] }) (bytes_of word) m ((row : List ℕ) × IsWord word row × (m ≡ record { row = row; updates = [] })) is (λ row read e. (row, words_read.sound word row read, sym e))

abbrev row_alone : List ℕ → Mutation
row_alone row = record { row = row; updates = [] }

row_complete : (word row : List ℕ) → IsWord word row → row_of word ≡ Some (row_alone row)
row_complete word row is = ap (λ (o : Option (List ℕ)). option_map row_alone o) (words_read.complete word row is)

createtable_sound : (words : Words) (line : Line) → createtable_of words ≡ Some line → Form (codes "createtable" ∷ words) line
unfolding createtable_of
createtable_sound words line is =
    on_field name_of words _ line (λ ws. Form (codes "createtable" ∷ ws) line) is (λ t ws table e1 f1.
    on_bind (settings ws) _ line (Form (codes "createtable" ∷ t ∷ ws) line) f1 (λ s e2 f2.
    subst (λ (y : Line). Form (codes "createtable" ∷ t ∷ ws) y) (some_inj (says.Act (act.CreateTable table s.0 s.1)) line f2)
    (form_createtable t table ws s.0 s.1 (names_read.sound t table e1) (settings_sound ws s.0 s.1 e2))))

setauths_sound : (words : Words) (line : Line) → setauths_of words ≡ Some line → Form (codes "setauths" ∷ words) line
unfolding setauths_of
setauths_sound words line is =
    on_field name_of words _ line (λ ws. Form (codes "setauths" ∷ ws) line) is (λ u ws1 user e1 f1.
    on_field list_of ws1 _ line (λ ws. Form (codes "setauths" ∷ u ∷ ws) line) f1 (λ l ws2 members e2 f2.
    on_ends ws2 _ line (λ ws. Form (codes "setauths" ∷ u ∷ l ∷ ws) line) f2 (λ f3.
    subst (λ (y : Line). Form (codes "setauths" ∷ u ∷ l ∷ []) y) (some_inj (says.Act (act.SetAuths user (set_of members))) line f3)
    (form_setauths u l user members (names_read.sound u user e1) (lists_read.sound l members e2)))))

constraints_sound : (words : Words) (line : Line) → constraints_line_of words ≡ Some line → Form (codes "constraints" ∷ words) line
unfolding constraints_line_of
constraints_sound words line is =
    on_field name_of words _ line (λ ws. Form (codes "constraints" ∷ ws) line) is (λ t ws1 table e1 f1.
    on_field constraints_of ws1 _ line (λ ws. Form (codes "constraints" ∷ t ∷ ws) line) f1 (λ l ws2 members e2 f2.
    on_ends ws2 _ line (λ ws. Form (codes "constraints" ∷ t ∷ l ∷ ws) line) f2 (λ f3.
    subst (λ (y : Line). Form (codes "constraints" ∷ t ∷ l ∷ []) y) (some_inj (says.Act (act.SetConstraints table (constraint_set_of members))) line f3)
    (form_constraints t l table members (names_read.sound t table e1) (constraints_read.sound l members e2)))))

insert_sound : (words : Words) (line : Line) → insert_of words ≡ Some line → Form (codes "insert" ∷ words) line
unfolding insert_of
insert_sound words line is =
    on_field name_of words _ line (λ ws. Form (codes "insert" ∷ ws) line) is (λ t ws1 table e1 f1.
    on_field row_of ws1 _ line (λ ws. Form (codes "insert" ∷ t ∷ ws) line) f1 (λ r ws2 m e2 f2.
    on_bind (put_of Optional ws2) _ line (Form (codes "insert" ∷ t ∷ r ∷ ws2) line) f2 (λ u e3 f3.
    on_bind (ends u.1) _ line (Form (codes "insert" ∷ t ∷ r ∷ ws2) line) f3 (λ end e4 f4.
    let h = row_sound r m e2 in
    let said : says.Act (act.Write table (with_update (row_alone h.0) u.0)) ≡ line =
    sym (ap (λ (n : Mutation). says.Act (act.Write table (with_update n u.0))) h.2) ∙ some_inj (says.Act (act.Write table (with_update m u.0))) line f4 in
    subst (λ (y : Line). Form (codes "insert" ∷ t ∷ r ∷ ws2) y) said
    (on_put Optional ws2 u.0 u.1 (λ ws x. Form (codes "insert" ∷ t ∷ r ∷ ws) (says.Act (act.Write table (with_update (row_alone h.0) x)))) e3
    (λ f q l v more family qualifier label value timestamp w1 w2 w3 w4 e5.
    form_insert t r f q l v table h.0 family qualifier label value more timestamp (names_read.sound t table e1) h.1 w1 w2 w3 w4 (last_timestamp more u.1 timestamp e5 (ends_none u.1 end e4))))))))

delete_sound : (words : Words) (line : Line) → delete_line_of words ≡ Some line → Form (codes "delete" ∷ words) line
unfolding delete_line_of
delete_sound words line is =
    on_field name_of words _ line (λ ws. Form (codes "delete" ∷ ws) line) is (λ t ws1 table e1 f1.
    on_field row_of ws1 _ line (λ ws. Form (codes "delete" ∷ t ∷ ws) line) f1 (λ r ws2 m e2 f2.
    on_bind (delete_of Optional ws2) _ line (Form (codes "delete" ∷ t ∷ r ∷ ws2) line) f2 (λ u e3 f3.
    on_bind (ends u.1) _ line (Form (codes "delete" ∷ t ∷ r ∷ ws2) line) f3 (λ end e4 f4.
    let h = row_sound r m e2 in
    let said : says.Act (act.Write table (with_update (row_alone h.0) u.0)) ≡ line =
    sym (ap (λ (n : Mutation). says.Act (act.Write table (with_update n u.0))) h.2) ∙ some_inj (says.Act (act.Write table (with_update m u.0))) line f4 in
    subst (λ (y : Line). Form (codes "delete" ∷ t ∷ r ∷ ws2) y) said
    (on_delete Optional ws2 u.0 u.1 (λ ws x. Form (codes "delete" ∷ t ∷ r ∷ ws) (says.Act (act.Write table (with_update (row_alone h.0) x)))) e3
    (λ f q l more family qualifier label timestamp w1 w2 w3 e5.
    form_delete t r f q l table h.0 family qualifier label more timestamp (names_read.sound t table e1) h.1 w1 w2 w3 (last_timestamp more u.1 timestamp e5 (ends_none u.1 end e4))))))))

mutate_sound : (words : Words) (line : Line) → mutate_of words ≡ Some line → Form (codes "mutate" ∷ words) line
unfolding mutate_of
mutate_sound words line is =
    on_field name_of words _ line (λ ws. Form (codes "mutate" ∷ ws) line) is (λ t ws1 table e1 f1.
    on_field row_of ws1 _ line (λ ws. Form (codes "mutate" ∷ t ∷ ws) line) f1 (λ r ws2 m e2 f2.
    on_bind (updates_of ws2) _ line (Form (codes "mutate" ∷ t ∷ r ∷ ws2) line) f2 (λ us e3 f3.
    let h = row_sound r m e2 in
    let said : says.Act (act.Write table (with_updates (row_alone h.0) us)) ≡ line =
    sym (ap (λ (n : Mutation). says.Act (act.Write table (with_updates n us))) h.2) ∙ some_inj (says.Act (act.Write table (with_updates m us))) line f3 in
    subst (λ (y : Line). Form (codes "mutate" ∷ t ∷ r ∷ ws2) y) said
    (form_mutate t r table h.0 ws2 us (names_read.sound t table e1) h.1 (updates_sound ws2 us e3)))))

scan_sound : (words : Words) (scan : Scan) → scan_words words ≡ Some scan → IsScan words scan
unfolding scan_words
scan_sound words scan is =
    on_field name_of words _ scan (λ ws. IsScan ws scan) is (λ t ws1 table e1 f1.
    on_field list_of ws1 _ scan (λ ws. IsScan (t ∷ ws) scan) f1 (λ a ws2 members e2 f2.
    on_bind (bounds_of ws2) _ scan (IsScan (t ∷ a ∷ ws2) scan) f2 (λ b e3 f3.
    on_bind (optional [] columns_of b.1) _ scan (IsScan (t ∷ a ∷ ws2) scan) f3 (λ c e4 f4.
    on_bind (ends c.1) _ scan (IsScan (t ∷ a ∷ ws2) scan) f4 (λ end e5 f5.
    subst (λ (y : Scan). IsScan (t ∷ a ∷ ws2) y) (some_inj _ scan f5)
    (scan_asks t a table members ws2 b.0 c.0 (names_read.sound t table e1) (lists_read.sound a members e2) (limits_sound ws2 b c e3 e4 (ends_none c.1 end e5))))))))

at_sound : (words : Words) (line : Line) → at_of words ≡ Some line → Form (codes "at" ∷ words) line
unfolding at_of
at_sound words line is =
    on_field signed_of words _ line (λ ws. Form (codes "at" ∷ ws) line) is (λ t ws moment e1 f1.
    on_ends ws _ line (λ ws. Form (codes "at" ∷ t ∷ ws) line) f1 (λ f2.
    subst (λ (y : Line). Form (codes "at" ∷ t ∷ []) y) (some_inj (says.At moment) line f2) (form_at t moment (numbers_read.sound t moment e1))))

rotate_sound : (words : Words) (line : Line) → rotate_of words ≡ Some line → Form (codes "rotate" ∷ words) line
unfolding rotate_of
rotate_sound words line is =
    on_ends words _ line (λ ws. Form (codes "rotate" ∷ ws) line) is (λ f.
    subst (λ (y : Line). Form (codes "rotate" ∷ []) y) (some_inj (says.Act act.Rotate) line f) form_rotate)

-- ---- and back

createtable_complete : (t table : List ℕ) (words : Words) (mode : TimeMode) (versions : ℕ) → IsNameWord t table → AreSettings words mode versions
    → createtable_of (t ∷ words) ≡ Some (says.Act (act.CreateTable table mode versions))
unfolding createtable_of
createtable_complete t table words mode versions name are =
    bind_some (field name_of (t ∷ words)) (table, words) _ _ (field_some name_of t words table (names_read.complete t table name))
    (bind_some (settings words) (mode, versions) _ _ (settings_complete words mode versions are) refl)

setauths_complete : (u l user : List ℕ) (members : List (List ℕ)) → IsNameWord u user → IsList IsWord l members → setauths_of (u ∷ l ∷ []) ≡ Some (says.Act (act.SetAuths user (set_of members)))
unfolding setauths_of
setauths_complete u l user members name list =
    bind_some (field name_of (u ∷ l ∷ [])) (user, l ∷ []) _ _ (field_some name_of u (l ∷ []) user (names_read.complete u user name))
    (bind_some (field list_of (l ∷ [])) (members, []) _ _ (field_some list_of l [] members (lists_read.complete l members list)) refl)

constraints_complete : (t l table : List ℕ) (members : List Constraint) → IsNameWord t table → IsList IsConstraint l members → constraints_line_of (t ∷ l ∷ []) ≡ Some (says.Act (act.SetConstraints table (constraint_set_of members)))
unfolding constraints_line_of
constraints_complete t l table members name list =
    bind_some (field name_of (t ∷ l ∷ [])) (table, l ∷ []) _ _ (field_some name_of t (l ∷ []) table (names_read.complete t table name))
    (bind_some (field constraints_of (l ∷ [])) (members, []) _ _ (field_some constraints_of l [] members (constraints_read.complete l members list)) refl)

insert_complete : (t r f q l v table row family qualifier label value : List ℕ) (words : Words) (timestamp : Option ℤ)
    → IsNameWord t table → IsWord r row → IsWord f family → IsWord q qualifier → IsWord l label → IsWord v value → IsLastTimestamp words timestamp
    → insert_of (t ∷ r ∷ f ∷ q ∷ l ∷ v ∷ words) ≡ Some (says.Act (act.Write table (record { row = row; updates = put_with family qualifier label value timestamp ∷ [] })))
unfolding insert_of
insert_complete t r f q l v table row family qualifier label value words timestamp name w0 w1 w2 w3 w4 time =
    bind_some (field name_of (t ∷ r ∷ f ∷ q ∷ l ∷ v ∷ words)) (table, r ∷ f ∷ q ∷ l ∷ v ∷ words) _ _ (field_some name_of t (r ∷ f ∷ q ∷ l ∷ v ∷ words) table (names_read.complete t table name))
    (bind_some (field row_of (r ∷ f ∷ q ∷ l ∷ v ∷ words)) (row_alone row, f ∷ q ∷ l ∷ v ∷ words) _ _ (field_some row_of r (f ∷ q ∷ l ∷ v ∷ words) (row_alone row) (row_complete r row w0))
    (bind_some (put_of Optional (f ∷ q ∷ l ∷ v ∷ words)) (put_with family qualifier label value timestamp, []) _ _
    (put_complete Optional f q l v words family qualifier label value timestamp [] w1 w2 w3 w4 (last_complete words timestamp time)) refl))

delete_line_complete : (t r f q l table row family qualifier label : List ℕ) (words : Words) (timestamp : Option ℤ)
    → IsNameWord t table → IsWord r row → IsWord f family → IsWord q qualifier → IsWord l label → IsLastTimestamp words timestamp
    → delete_line_of (t ∷ r ∷ f ∷ q ∷ l ∷ words) ≡ Some (says.Act (act.Write table (record { row = row; updates = delete_with family qualifier label timestamp ∷ [] })))
unfolding delete_line_of
delete_line_complete t r f q l table row family qualifier label words timestamp name w0 w1 w2 w3 time =
    bind_some (field name_of (t ∷ r ∷ f ∷ q ∷ l ∷ words)) (table, r ∷ f ∷ q ∷ l ∷ words) _ _ (field_some name_of t (r ∷ f ∷ q ∷ l ∷ words) table (names_read.complete t table name))
    (bind_some (field row_of (r ∷ f ∷ q ∷ l ∷ words)) (row_alone row, f ∷ q ∷ l ∷ words) _ _ (field_some row_of r (f ∷ q ∷ l ∷ words) (row_alone row) (row_complete r row w0))
    (bind_some (delete_of Optional (f ∷ q ∷ l ∷ words)) (delete_with family qualifier label timestamp, []) _ _
    (delete_complete Optional f q l words family qualifier label timestamp [] w1 w2 w3 (last_complete words timestamp time)) refl))

mutate_complete : (t r table row : List ℕ) (words : Words) (updates : List Update) → IsNameWord t table → IsWord r row → AreUpdates words updates
    → mutate_of (t ∷ r ∷ words) ≡ Some (says.Act (act.Write table (record { row = row; updates = updates })))
unfolding mutate_of
mutate_complete t r table row words updates name w0 are =
    bind_some (field name_of (t ∷ r ∷ words)) (table, r ∷ words) _ _ (field_some name_of t (r ∷ words) table (names_read.complete t table name))
    (bind_some (field row_of (r ∷ words)) (row_alone row, words) _ _ (field_some row_of r words (row_alone row) (row_complete r row w0))
    (bind_some (updates_of words) updates _ _ (updates_complete words updates are) refl))

scan_complete : (t a table : List ℕ) (members : List (List ℕ)) (words : Words) (bounds : Bounds) (columns : List Column) → IsNameWord t table → IsList IsWord a members → AreLimits words bounds columns
    → scan_words (t ∷ a ∷ words) ≡ Some (record { table = table; bounds = bounds; columns = columns; authorizations = set_of members })
unfolding scan_words
scan_complete t a table members words bounds columns name list are =
    let h = limits_complete words bounds columns are in
    bind_some (field name_of (t ∷ a ∷ words)) (table, a ∷ words) _ _ (field_some name_of t (a ∷ words) table (names_read.complete t table name))
    (bind_some (field list_of (a ∷ words)) (members, words) _ _ (field_some list_of a words members (lists_read.complete a members list))
    (bind_some (bounds_of words) (bounds, h.0) _ _ h.1
    (bind_some (optional [] columns_of h.0) (columns, []) _ _ h.2 refl)))

at_complete : (t : List ℕ) (moment : ℤ) → IsNumber t moment → at_of (t ∷ []) ≡ Some (says.At moment)
unfolding at_of
at_complete t moment is = bind_some (field signed_of (t ∷ [])) (moment, []) _ _ (field_some signed_of t [] moment (numbers_read.complete t moment is)) refl

rotate_complete : rotate_of [] ≡ Some (says.Act act.Rotate)
unfolding rotate_of
rotate_complete = refl

compact_sound : (words : Words) (line : Line) → compact_of words ≡ Some line → Form (codes "compact" ∷ words) line
unfolding compact_of
compact_sound words line is =
    on_field name_of words _ line (λ ws. Form (codes "compact" ∷ ws) line) is (λ t ws1 table e1 f1.
    on_field extent_word ws1 _ line (λ ws. Form (codes "compact" ∷ t ∷ ws) line) f1 (λ word ws2 extent e2 f2.
    on_ends ws2 _ line (λ ws. Form (codes "compact" ∷ t ∷ word ∷ ws) line) f2 (λ f3.
    subst (λ (y : Line). Form (codes "compact" ∷ t ∷ word ∷ []) y) (some_inj (says.Act (act.Compact table extent)) line f3)
    (subst (λ (w : List ℕ). Form (codes "compact" ∷ t ∷ w ∷ []) (says.Act (act.Compact table extent))) (sym (extent_sound word extent e2))
    (form_compact t table extent (names_read.sound t table e1))))))

compact_complete : (t table : List ℕ) (extent : Extent) → IsNameWord t table → compact_of (t ∷ extent_name extent ∷ []) ≡ Some (says.Act (act.Compact table extent))
unfolding compact_of
compact_complete t table extent name =
    bind_some (field name_of (t ∷ extent_name extent ∷ [])) (table, extent_name extent ∷ []) _ _ (field_some name_of t (extent_name extent ∷ []) table (names_read.complete t table name))
    (bind_some (field extent_word (extent_name extent ∷ [])) (extent, []) _ _ (field_some extent_word (extent_name extent) [] extent (extent_complete extent)) refl)

-- ---- all lines

-- a line of a command and one name
named_sound : (text : List ℕ) (said : List ℕ → Line) (words : Words) (line : Line) → ((w name : List ℕ) → IsNameWord w name → Form (text ∷ w ∷ []) (said name))
    → option_map said (name_alone words) ≡ Some line → Form (text ∷ words) line
named_sound text said words line form is =
    on_map said (name_alone words) line (Form (text ∷ words) line) is (λ name read e.
    subst (λ (y : Line). Form (text ∷ words) y) e (on_name_alone words name (λ ws. Form (text ∷ ws) (said name)) read (λ w named. form w name named)))

-- a line of a command and what a scan asks
asked_sound : (text : List ℕ) (said : Scan → Line) (words : Words) (line : Line) → ((ws : Words) (scan : Scan) → IsScan ws scan → Form (text ∷ ws) (said scan))
    → option_map said (scan_words words) ≡ Some line → Form (text ∷ words) line
asked_sound text said words line form is =
    on_map said (scan_words words) line (Form (text ∷ words) line) is (λ scan read e. subst (λ (y : Line). Form (text ∷ words) y) e (form words scan (scan_sound words scan read)))

asked_complete : (words : Words) (scan : Scan) → IsScan words scan → scan_words words ≡ Some scan
asked_complete words scan (scan_asks t a table members ws bounds columns name list are) = scan_complete t a table members ws bounds columns name list are

-- a line of a command, a user and a permission
grant_sound : (text : List ℕ) (said : List ℕ × Permission → Line) (words : Words) (line : Line)
    → ((u user : List ℕ) (ws : Words) (p : Permission) → IsNameWord u user → IsPermission ws p → Form (text ∷ u ∷ ws) (said (user, p)))
    → option_map said (grant_of words) ≡ Some line → Form (text ∷ words) line
grant_sound text said words line form is =
    on_map said (grant_of words) line (Form (text ∷ words) line) is (λ grant read e.
    subst (λ (y : Line). Form (text ∷ words) y) e (on_grant words grant (λ ws. Form (text ∷ ws) (said grant)) read (λ u rest named given. form u grant.0 rest grant.1 named given)))

-- a command by its word, and that what is read of the words behind it is of its form
record Row : Type 0 where
  text : List ℕ
  names : Command
  sound : (words : Words) (line : Line) → commanded names words ≡ Some line → Form (text ∷ words) line

abbrev row : (text : List ℕ) (c : Command) → ((words : Words) (line : Line) → commanded c words ≡ Some line → Form (text ∷ words) line) → Row
row text c sound = record { text = text; names = c; sound = sound }

abbrev rows : List Row
rows =
    row (codes "as") command.As (λ words line is. named_sound (codes "as") (λ user. says.As user) words line form_asker is) ∷
    row (codes "at") command.At at_sound ∷
    row (codes "createtable") command.CreateTable createtable_sound ∷
    row (codes "droptable") command.DropTable (λ words line is. named_sound (codes "droptable") (λ name. says.Act (act.DropTable name)) words line form_droptable is) ∷
    row (codes "createuser") command.CreateUser (λ words line is. named_sound (codes "createuser") (λ name. says.Act (act.CreateUser name)) words line form_createuser is) ∷
    row (codes "dropuser") command.DropUser (λ words line is. named_sound (codes "dropuser") (λ name. says.Act (act.DropUser name)) words line form_dropuser is) ∷
    row (codes "setauths") command.SetAuths setauths_sound ∷
    row (codes "grant") command.Grant (λ words line is. grant_sound (codes "grant") (λ grant. says.Act (act.Grant grant.0 grant.1)) words line form_grant is) ∷
    row (codes "revoke") command.Revoke (λ words line is. grant_sound (codes "revoke") (λ grant. says.Act (act.Revoke grant.0 grant.1)) words line form_revoke is) ∷
    row (codes "rights") command.Rights (λ words line is. named_sound (codes "rights") (λ name. says.Act (act.Rights name)) words line form_rights is) ∷
    row (codes "constraints") command.Constraints constraints_sound ∷
    row (codes "versions") command.Versions versions_line_sound ∷
    row (codes "horizon") command.Horizon horizon_sound ∷
    row (codes "insert") command.Insert insert_sound ∷
    row (codes "delete") command.Delete delete_sound ∷
    row (codes "mutate") command.Mutate mutate_sound ∷
    row (codes "scan") command.Scan (λ words line is. asked_sound (codes "scan") (λ scan. says.Scan scan) words line form_scan is) ∷
    row (codes "open") command.Open (λ words line is. asked_sound (codes "open") (λ scan. says.Open scan) words line form_opened is) ∷
    row (codes "next") command.Next next_sound ∷
    row (codes "many") command.Many many_sound ∷
    row (codes "close") command.Close close_sound ∷
    row (codes "flush") command.Flush (λ words line is. named_sound (codes "flush") (λ name. says.Act (act.Flush name)) words line form_flush is) ∷
    row (codes "compact") command.Compact compact_sound ∷
    row (codes "begin") command.Begin begin_sound ∷
    row (codes "merge") command.Merge merge_sound ∷
    row (codes "install") command.Install install_sound ∷
    row (codes "status") command.Status (λ words line is. named_sound (codes "status") (λ name. says.Act (act.Status name)) words line form_status is) ∷
    row (codes "addsplit") command.AddSplit addsplit_sound ∷
    row (codes "splitsize") command.SplitSize splitsize_sound ∷
    row (codes "splits") command.Splits (λ words line is. named_sound (codes "splits") (λ name. says.Act (act.Splits name)) words line form_splits is) ∷
    row (codes "save") command.Save (λ words line is. file_sound (codes "save") Save words line form_save is) ∷
    row (codes "load") command.Load (λ words line is. file_sound (codes "load") Load words line form_load is) ∷
    row (codes "rotate") command.Rotate rotate_sound ∷ []

-- the first of these whose word it is
abbrev command_among : List Row → List ℕ → Option Command
command_among [] word = None
command_among (r ∷ rs) word = cond (bytes_eq word r.text) (Some r.names) (command_among rs word)

among_sound : (rs : List Row) (word : List ℕ) (c : Command) (words : Words) (line : Line) → command_among rs word ≡ Some c → commanded c words ≡ Some line → Form (word ∷ words) line
among_sound [] word c words line e is = absurd cc
among_sound (r ∷ rs) word c words line e is =
    on_cond (bytes_eq word r.text) (Some r.names) (command_among rs word) c (Form (word ∷ words) line) e
    (λ yes e1. subst (λ (w : List ℕ). Form (w ∷ words) line) (sym ((bytes_eq-Decides word r.text).0 yes))
    (r.sound words line (subst (λ (d : Command). commanded d words ≡ Some line) (sym (some_inj r.names c e1)) is)))
    (λ no e1. among_sound rs word c words line e1 is)

said_sound : (words : Words) (line : Line) → said words ≡ Some line → Form words line
said_sound [] line is = subst (λ (y : Line). Form [] y) (some_inj says.Blank line is) form_blank
said_sound (word ∷ words) line is = on_bind (command_of word) (λ c. commanded c words) line (Form (word ∷ words) line) is (λ c e is'. among_sound rows word c words line e is')

said_complete : (words : Words) (line : Line) → Form words line → said words ≡ Some line
said_complete words line form_blank = refl
said_complete words line (form_asker u user name) = ap (λ (o : Option (List ℕ)). option_map (λ n. says.As n) o) (name_alone_complete u user name)
said_complete words line (form_at t moment is) = at_complete t moment is
said_complete words line (form_createtable t table ws mode versions name are) = createtable_complete t table ws mode versions name are
said_complete words line (form_droptable t table name) = ap (λ (o : Option (List ℕ)). option_map (λ n. says.Act (act.DropTable n)) o) (name_alone_complete t table name)
said_complete words line (form_createuser u user name) = ap (λ (o : Option (List ℕ)). option_map (λ n. says.Act (act.CreateUser n)) o) (name_alone_complete u user name)
said_complete words line (form_dropuser u user name) = ap (λ (o : Option (List ℕ)). option_map (λ n. says.Act (act.DropUser n)) o) (name_alone_complete u user name)
said_complete words line (form_setauths u l user members name list) = setauths_complete u l user members name list
said_complete words line (form_grant u user ws p name is) = ap (λ (o : Option (List ℕ × Permission)). option_map (λ g. says.Act (act.Grant g.0 g.1)) o) (grant_complete u user ws p name is)
said_complete words line (form_revoke u user ws p name is) = ap (λ (o : Option (List ℕ × Permission)). option_map (λ g. says.Act (act.Revoke g.0 g.1)) o) (grant_complete u user ws p name is)
said_complete words line (form_rights t table name) = ap (λ (o : Option (List ℕ)). option_map (λ n. says.Act (act.Rights n)) o) (name_alone_complete t table name)
said_complete words line (form_constraints t l table members name list) = constraints_complete t l table members name list
said_complete words line (form_versions t n table many name count) = versions_line_complete t n table many name count
said_complete words line (form_horizon t s table timestamp name number) = horizon_complete t s table timestamp name number
said_complete words line (form_insert t r f q l v table row family qualifier label value ws timestamp name w0 w1 w2 w3 w4 time) =
    insert_complete t r f q l v table row family qualifier label value ws timestamp name w0 w1 w2 w3 w4 time
said_complete words line (form_delete t r f q l table row family qualifier label ws timestamp name w0 w1 w2 w3 time) =
    delete_line_complete t r f q l table row family qualifier label ws timestamp name w0 w1 w2 w3 time
said_complete words line (form_mutate t r table row ws updates name w0 are) = mutate_complete t r table row ws updates name w0 are
said_complete words line (form_scan ws scan is) = ap (λ (o : Option Scan). option_map (λ s. says.Scan s) o) (asked_complete ws scan is)
said_complete words line (form_opened ws scan is) = ap (λ (o : Option Scan). option_map (λ s. says.Open s) o) (asked_complete ws scan is)
said_complete words line (form_next k n session count s c) = next_complete k n session count s c
said_complete words line (form_many k ws session ranges s are) = many_complete k ws session ranges s are
said_complete words line (form_close k session s) = close_complete k session s
said_complete words line (form_flush t table name) = ap (λ (o : Option (List ℕ)). option_map (λ n. says.Act (act.Flush n)) o) (name_alone_complete t table name)
said_complete words line (form_compact t table extent name) = compact_complete t table extent name
said_complete words line (form_begin t r table row kind name word) = begin_complete t r table row kind name word
said_complete words line (form_merge k job number) = merge_complete k job number
said_complete words line (form_install t k table job name number) = install_complete t k table job name number
said_complete words line (form_status t table name) = ap (λ (o : Option (List ℕ)). option_map (λ n. says.Act (act.Status n)) o) (name_alone_complete t table name)
said_complete words line (form_addsplit t r table row name word) = addsplit_complete t r table row name word
said_complete words line (form_splitsize t r l table row limit name word number) = splitsize_complete t r l table row limit name word number
said_complete words line (form_splits t table name) = ap (λ (o : Option (List ℕ)). option_map (λ n. says.Act (act.Splits n)) o) (name_alone_complete t table name)
said_complete words line (form_save f name is) = file_complete Save f name is
said_complete words line (form_load f name is) = file_complete Load f name is
said_complete words line form_rotate = rotate_complete

line_sound : (text : List ℕ) (line : Line) → line_of text ≡ Some line → IsLine text line
line_sound [] line is = line_words [] (words_of []) line (λ rest e. absurd cc) (words_sound (words_of []) [] refl) (said_sound (words_of []) line is)
line_sound (c ∷ cs) line is =
    on_cond (c == 35) (Some says.Blank) _ line (IsLine (c ∷ cs) line) is
    (λ yes e.
    let hash : c ≡ 35 = grind (arith, nat_tests) in
    subst (λ (d : ℕ). IsLine (d ∷ cs) line) (sym hash) (subst (λ (y : Line). IsLine (35 ∷ cs) y) (some_inj says.Blank line e) (line_comment cs)))
    (λ no e.
    line_words (c ∷ cs) (words_of (c ∷ cs)) line (λ rest same. let hash : c ≡ 35 = first c cs rest same in absurd (grind (arith, nat_tests))) (words_sound (words_of (c ∷ cs)) (c ∷ cs) refl) (said_sound (words_of (c ∷ cs)) line e))
  where
    first : (d : ℕ) (ds rest : List ℕ) → d ∷ ds ≡ 35 ∷ rest → d ≡ 35
    first d ds rest e = cc

line_complete : (text : List ℕ) (line : Line) → IsLine text line → line_of text ≡ Some line
line_complete text line (line_comment rest) = refl
line_complete text line (line_words t ws l other are is) = not_comment t other ∙ ap (λ (all : Words). said all) (words_complete ws t are) ∙ said_complete ws l is
  where
    not_comment : (s : List ℕ) → ((rest : List ℕ) → s ≢ 35 ∷ rest) → cond (is_comment s) (Some says.Blank) (said (words_of s)) ≡ said (words_of s)
    not_comment [] other = refl
    not_comment (c ∷ cs) other = elim (c == 35) as (λ b. (c == 35) ≡ b → cond b (Some says.Blank) (said (words_of (c ∷ cs))) ≡ said (words_of (c ∷ cs))) [
      | true ↦ λ yes. let hash : c ≡ 35 = grind (arith, nat_tests) in absurd (other cs (ap (λ (d : ℕ). d ∷ cs) hash))
      | false ↦ λ no. refl
    ] refl

pub lines_are_forms : LinesAreForms
lines_are_forms text line = (line_sound text line, line_complete text line)
