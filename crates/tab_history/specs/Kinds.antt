-- To be believed. The kinds of acts. What goes by an act's kind is read from this one list, so that each new act has to say which it is of.
use Rattle.std.specs.Prelude.{Bool, true, false}
use Rattle.tab_history.specs.declared.event.Act.{Act}
use Rattle.tab_history.specs.declared.event.Act.TheVariants.{Open, Write, CreateTable, DropTable, SetConstraints, SetVersions, SetHorizon, CreateUser, DropUser, SetAuths, Grant, Revoke, Rights, Status, Flush, Compact, AddSplit, SplitBySize, Splits, Save, Rotate, Load, Begin, Install}

pub data Kind : Type 0 where
  -- cells are read or written, or a user asks for his own rights
  Covered : Kind
  -- there is a table, a user or a right more
  Adding : Kind
  -- something is taken away, or what was handed in takes the place of what was there
  Setting : Kind
  -- records are laid otherwise, and the answer is plain
  Laying : Kind
  -- records are laid otherwise, or it is told how they lie; no history tells the answer
  Placing : Kind
  -- records and where they lie are counted; no history tells the answer
  Counting : Kind
  -- it is only asked whether something may be done outside
  Asking : Kind

abbrev pub kind_of : Act → Kind
kind_of (Open scan) = Covered
kind_of (Write t m) = Covered
kind_of (Rights t) = Covered
kind_of (CreateTable t time n) = Adding
kind_of (CreateUser n) = Adding
kind_of (Grant n p) = Adding
kind_of (DropTable t) = Setting
kind_of (DropUser n) = Setting
kind_of (Revoke n p) = Setting
kind_of (SetConstraints t cs) = Setting
kind_of (SetVersions t many) = Setting
kind_of (SetHorizon t low) = Setting
kind_of (SetAuths n auths) = Setting
kind_of (Flush t) = Laying
kind_of (Compact t extent) = Laying
kind_of (AddSplit t row) = Placing
kind_of (SplitBySize t row limit) = Placing
kind_of (Splits t) = Placing
kind_of (Begin t row kind) = Placing
kind_of (Install t given) = Placing
kind_of (Status t) = Counting
kind_of Save = Asking
kind_of Load = Asking
kind_of Rotate = Asking

-- whether an act of the kind takes memory
abbrev pub is_taking : Kind → Bool
is_taking Setting = false
is_taking Counting = false
is_taking Asking = false
is_taking kind = true

-- whether what is told of it is left open, once no check refuses it
abbrev pub is_untold : Kind → Bool
is_untold Placing = true
is_untold Counting = true
is_untold kind = false

-- whether the law of two worlds speaks of its reply
abbrev pub is_heard : Kind → Bool
is_heard Covered = true
is_heard kind = false

-- whether it changes nothing that a history reads, but the clock
abbrev pub is_unread : Kind → Bool
is_unread Laying = true
is_unread Placing = true
is_unread Counting = true
is_unread Asking = true
is_unread kind = false
