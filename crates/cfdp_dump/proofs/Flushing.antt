-- What holds of a dump's end still holds once what waits in the buffer was written out.
use Rattle.std.proofs.Common.{◌≡◌, ℕ, false, List, Option, None, Some, MatchOption, refl, subst, sym, ⊎_elim}
use Rattle.std.specs.Io.KnownBytes.{Keeps}
use Rattle.std.proofs.KnownBytes.{Keeps-trans}
use Rattle.captures.specs.Captures.{start_of}
use Rattle.captures.specs.Packets.{CaptureState}
use Rattle.cfdp_dump.specs.declared.channel.Channel.{Channel}
use Rattle.cfdp_dump.specs.Dump.{EndsDump, WritesCapture, WritesFile, WritesText}
use Rattle.cfdp_dump.specs.Dump.Told.{TellsTold, Told}
use Rattle.cfdp_dump.specs.Dump.Units.{WritesRun}
use Rattle.cfdp_dump.specs.declared.dump.DumpRequest.{DumpRequest}
use Rattle.cfdp_report.specs.declared.exit.Exit.{Exit}
use Rattle.cfdp_report.specs.declared.exit.Exit.TheVariants.{Complete, Incomplete, BadScript, Device}
use Rattle.cfdp_report.specs.declared.exit.Fault.TheVariants.{Unreadable, TooLong, Unwritable, NoMemoryAtStart, NoMemory}
use Rattle.cfdp_report.specs.Exit.{has_report}
use Rattle.cfdp_report.proofs.FlushedEnds.{IsFlushedFrom}
use Rattle.cfdp_dump.proofs.TextLines.{lines_kept}

module _ (old mid new : Option (List ℕ)) (kept : Keeps mid new) where
  run_kept : {A : Type 0} (P : List Channel → A → List Told → List Channel → Type 0) (request : DumpRequest) (units : List A) (after : List Channel)
      → WritesRun P request units after old mid → WritesRun P request units after old new
  run_kept P request units after all = record {
    tolds = all.tolds;
    told = all.told;
    written = lines_kept (TellsTold request) all.tolds old mid new all.written kept;
  }

  file_kept_as : (request : DumpRequest) (file : List ℕ) (start : Option CaptureState)
      → MatchOption start (WritesText request file old mid) (λ st. WritesCapture request st file old mid)
      → MatchOption start (WritesText request file old new) (λ st. WritesCapture request st file old new)
  file_kept_as request file None all = record { after = all.after; written = run_kept _ request _ all.after all.written }
  file_kept_as request file (Some st) all = record {
    items = all.items;
    last = all.last;
    spelled = all.spelled;
    after = all.after;
    written = run_kept _ request all.items all.after all.written;
  }

  file_kept : (request : DumpRequest) (file : List ℕ) → WritesFile request file old mid → WritesFile request file old new
  file_kept request file all = file_kept_as request file (start_of file) all

  dump_kept : (request : DumpRequest) (left : Option (List ℕ)) (exit : Exit) → EndsDump request left old mid exit → EndsDump request left old new exit
  dump_kept request None Complete ends = ends
  dump_kept request (Some text) Complete ends = (ends.0, file_kept request text ends.1)
  dump_kept request left Incomplete ends = absurd ends
  dump_kept request left (BadScript bad) ends = absurd ends
  dump_kept request left (Device NoMemory) ends = ends
  dump_kept request left (Device NoMemoryAtStart) ends = Keeps-trans old mid new ends kept
  dump_kept request left (Device Unwritable) ends = ends
  dump_kept request left (Device (Unreadable kind)) ends = Keeps-trans old mid new ends kept
  dump_kept request left (Device TooLong) ends = (ends.0, Keeps-trans old mid new ends.1 kept)

  dump_stays : (request : DumpRequest) (left : Option (List ℕ)) (exit ended : Exit) → EndsDump request left old mid exit → has_report exit ≡ false
      → (has_report exit ≡ false → ended ≡ exit) → EndsDump request left old new ended
  dump_stays request left exit ended ends silent none = subst (λ e. EndsDump request left old new e) (sym (none silent)) (dump_kept request left exit ends)

  -- one whose lines couldn't be written out had read all of them
  dump_unwritten : (request : DumpRequest) (left : Option (List ℕ)) (exit ended : Exit) → EndsDump request left old mid exit → ended ≡ Device Unwritable
      → (has_report exit ≡ false → ended ≡ exit) → EndsDump request left old new ended
  dump_unwritten request left Complete ended ends failed none = subst (λ e. EndsDump request left old new e) (sym failed) ends.0
  dump_unwritten request left (Device NoMemory) ended ends failed none = subst (λ e. EndsDump request left old new e) (sym failed) ends
  dump_unwritten request left Incomplete ended ends failed none = absurd ends
  dump_unwritten request left (BadScript bad) ended ends failed none = absurd ends
  dump_unwritten request left (Device NoMemoryAtStart) ended ends failed none = dump_stays request left (Device NoMemoryAtStart) ended ends refl none
  dump_unwritten request left (Device Unwritable) ended ends failed none = dump_stays request left (Device Unwritable) ended ends refl none
  dump_unwritten request left (Device (Unreadable kind)) ended ends failed none = dump_stays request left (Device (Unreadable kind)) ended ends refl none
  dump_unwritten request left (Device TooLong) ended ends failed none = dump_stays request left (Device TooLong) ended ends refl none

  pub flushed_dump : (request : DumpRequest) (left : Option (List ℕ)) (exit ended : Exit) → EndsDump request left old mid exit
      → IsFlushedFrom exit ended → (has_report exit ≡ false → ended ≡ exit) → EndsDump request left old new ended
  flushed_dump request left exit ended ends from none = ⊎_elim
      (λ same. subst (λ e. EndsDump request left old new e) (sym same) (dump_kept request left exit ends))
      (λ failed. dump_unwritten request left exit ended ends failed none) from
