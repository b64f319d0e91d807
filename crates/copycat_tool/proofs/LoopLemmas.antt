-- What a loop over the pieces of a script keeps, and what is reported at each of its exits.
use Rattle.std.proofs.Common.{◌≡◌, inl, ℕ, ◌+◌, ◌-◌, ◌≤◌, ◌<◌, nat_le, Bool, true, false, List, [], ◌∷◌, ◌++◌, length, take, drop, Option, Some, Result, refl, ap, sym, ◌∙◌, subst, arith, append_assoc, length-append, take-append-drop, length-take, nat_lt, if◌then◌else◌}
use Rattle.std.proofs.lemmas.List.{append-nil, take_all}
use Rattle.std.proofs.lemmas.Bool.Decides.{nat_tests}
use Rattle.std.proofs.Math.Seq.{take-append-add, take-append_seam}
use Rattle.disk_model.specs.View.{View}
use Rattle.host_recovery.specs.HostState.{HostState}
use Rattle.resource_catalog.specs.Parts.{Parts}
use Rattle.copycat_tool.specs.Script.{command, line_limit, script_limit}
use Rattle.copycat_tool.specs.Report.{Run, Report, Cut, Whole, Broken, Above, after, report, one, ends, in_front, last_piece, cut_of, printed}
use Rattle.copycat_tool.specs.declared.ending.Ending.{Ending}
use Rattle.copycat_tool.specs.declared.ending.Ending.TheVariants.{Done, Fault, TooLong, ReadFault, WriteFault, DiskFault, NoMemory, Damaged}
use Rattle.copycat_tool.specs.Pieces.{Finds, TakesMore, EndsAt, IsShort, IsTooLong}
use Rattle.copycat_tool.specs.declared.reader.Piece.{Piece}
use Rattle.copycat_tool.specs.declared.reader.ReadError.{ReadError}
use Rattle.copycat_tool.specs.Runs.{Files, Ended, IsComplete, Wrote, came, reported}
use Rattle.copycat_tool.specs.RunStanding.{IsAt}
use Rattle.copycat_tool.specs.ClientTakes.{HasClients}
use Rattle.copycat_tool.specs.Turning.{HasEndedIn, HasRun, HasTurned}
use Rattle.copycat_tool.specs.declared.clients.Clients.{Clients}
use Rattle.copycat_tool.proofs.ReportLemmas.{report_at, report_none, report_long}
use Rattle.copycat_tool.proofs.Prefixes.{after-append, printed-append}
use Rattle.copycat_tool.proofs.Progress.{SoFar, at_first, one_more, stays, ends_after}
use Rattle.copycat_tool.proofs.Writing.{wrote_as, wrote_more, wrote_none}

-- So many lines were answered, and this is held and left of the script.
pub record Met {D : Type 0} (view : D → View) (files : Files) (old now : HostState D Parts) (first : Run) (number : ℕ) (script held : List ℕ) (taken : ℕ) (left : Option (List ℕ)) (written written' : Option (List ℕ)) (clients : Clients) : Type 0 where
  pub consumed : List ℕ
  pub rest : List ℕ
  pub so_far : SoFar files first number consumed (view old.disk) (view now.disk)
  pub at : IsAt view files now (after files.size first so_far.done)
  pub parts : script ≡ consumed ++ (held ++ rest)
  pub left_is : left ≡ Some rest
  pub taken_is : taken ≡ length consumed + length held
  pub wrote : Wrote written written' (printed so_far.done)
  pub clients_are : HasClients (after files.size first so_far.done) clients

-- more is held
pub parts_more : (script consumed held held' left rest : List ℕ) (taken taken' : ℕ) → script ≡ consumed ++ (held ++ left) → TakesMore left held held' taken taken' rest → script ≡ consumed ++ (held' ++ rest)
parts_more script consumed held held' left rest taken taken' parts takes =
    parts
    ∙ ap (λ (l : List ℕ). consumed ++ (held ++ l)) takes.parts
    ∙ ap (λ (l : List ℕ). consumed ++ l) (sym (append_assoc held takes.more rest))
    ∙ ap (λ (l : List ℕ). consumed ++ (l ++ rest)) (sym takes.held_is)

pub taken_more : (consumed held held' left rest : List ℕ) (taken taken' : ℕ) → taken ≡ length consumed + length held → TakesMore left held held' taken taken' rest → taken' ≡ length consumed + length held'
taken_more consumed held held' left rest taken taken' is takes = omega (arith, is, takes.taken_is, ap length takes.held_is, length-append held takes.more)

take_front : (a rest : List ℕ) (m : ℕ) → length a ≤ m → take m (a ++ rest) ≡ a ++ take (m - length a) rest
take_front a rest m le =
    let e : m ≡ length a + (m - length a) = omega arith in
    ap (λ (k : ℕ). take k (a ++ rest)) e ∙ take-append-add a rest (m - length a)

within : (a b : ℕ) → a ≤ b → nat_le a b ≡ true
within a b le = grind (arith, nat_tests)

above : (a b : ℕ) → b < a → nat_le a b ≡ false
above a b lt = grind (arith, nat_tests)

not_below : (a b : ℕ) → b ≤ a → nat_lt a b ≡ false
not_below a b le = grind (arith, nat_tests)

-- a script whose first part is consumed and whose next part is held, within the limit
module _ (files : Files) (first : Run) (number : ℕ) (old now : View) (consumed : List ℕ) (so_far : SoFar files first number consumed old now)
    (script held rest : List ℕ) (parts : script ≡ consumed ++ (held ++ rest)) (limit : length consumed + length held ≤ script_limit) where
  abbrev run : Run
  run = after files.size first so_far.done

  abbrev more : List ℕ
  more = take (script_limit - length (consumed ++ held)) rest

  limited : take script_limit script ≡ consumed ++ (held ++ more)
  limited =
      ap (λ (l : List ℕ). take script_limit l) (parts ∙ sym (append_assoc consumed held rest))
      ∙ take_front (consumed ++ held) rest script_limit (omega (arith, limit, length-append consumed held))
      ∙ append_assoc consumed held more

  abbrev whole : Report
  whole = report files.size first 1 (cut_of script) (take script_limit script)

  whole_is : whole ≡ in_front so_far.done (report files.size run number (cut_of script) (held ++ more))
  whole_is = ap (λ (l : List ℕ). report files.size first 1 (cut_of script) l) limited ∙ so_far.goes_on (cut_of script) (held ++ more)

  abbrev behind : ℕ → Run → Report
  behind n run = report files.size run (number + 1) (cut_of script) (drop (n + 1) held ++ more)

  -- a line stands at the front
  pub at_line : (n : ℕ) → EndsAt held n → whole ≡ in_front so_far.done (one files.size (command (take n held)) run number (behind n))
  at_line n at =
      let line : held ++ more ≡ take n held ++ 10 ∷ (drop (n + 1) held ++ more) =
      ap (λ (l : List ℕ). l ++ more) at.feed ∙ append_assoc (take n held) (10 ∷ drop (n + 1) held) more in
      whole_is ∙ ap (λ (l : List ℕ). in_front so_far.done (report files.size run number (cut_of script) l)) line
      ∙ ap (λ (r : Report). in_front so_far.done r) (report_at files.size run number (cut_of script) (take n held) (drop (n + 1) held ++ more) at.none_before)

  -- the first line is too long
  pub at_long : IsTooLong held → whole ≡ in_front so_far.done (ends (Fault number))
  at_long long =
      let line : held ++ more ≡ take long.front held ++ (drop long.front held ++ more) =
      ap (λ (l : List ℕ). l ++ more) (sym (take-append-drop long.front held)) ∙ append_assoc (take long.front held) (drop long.front held) more in
      let far : line_limit < length (take long.front held) = omega (arith, length-take long.front held, long.within, long.long) in
      whole_is ∙ ap (λ (l : List ℕ). in_front so_far.done (report files.size run number (cut_of script) l)) line
      ∙ ap (λ (r : Report). in_front so_far.done r) (report_long files.size run number (cut_of script) (take long.front held) (drop long.front held ++ more) long.none far)

  -- nothing more comes
  pub at_last : IsShort held → rest ≡ [] → whole ≡ in_front so_far.done (last_piece files.size Whole run number held)
  at_last short none =
      let script_is : script ≡ consumed ++ held = parts ∙ ap (λ (l : List ℕ). consumed ++ (held ++ l)) none ∙ ap (λ (l : List ℕ). consumed ++ l) (append-nil held) in
      let le : length script ≤ script_limit = omega (arith, limit, ap length script_is, length-append consumed held) in
      let cut : cut_of script ≡ Whole = ap (λ (t : Bool). if t then Whole else Above) (within _ _ le) in
      ap (λ (l : List ℕ). report files.size first 1 (cut_of script) l) (take_all script_limit script le ∙ script_is)
      ∙ ap (λ (c : Cut). report files.size first 1 c (consumed ++ held)) cut
      ∙ so_far.goes_on Whole held
      ∙ ap (λ (r : Report). in_front so_far.done r) (report_none files.size run number Whole held short.none)

  -- the script goes on above its limit
  pub at_above : IsShort held → length consumed + length held ≡ script_limit → 0 < length rest → whole ≡ in_front so_far.done (ends TooLong)
  at_above short full some =
      let lt : script_limit < length script = omega (arith, full, some, ap length parts, length-append consumed (held ++ rest), length-append held rest) in
      let cut : cut_of script ≡ Above = ap (λ (t : Bool). if t then Whole else Above) (above _ _ lt) in
      let no_more : more ≡ [] = (let none : script_limit - length (consumed ++ held) ≡ 0 = omega (arith, full, length-append consumed held) in ap (λ (k : ℕ). take k rest) none) in
      let piece : last_piece files.size Above run number held ≡ ends TooLong = ap (λ (t : Bool). if t then ends (Fault number) else ends TooLong) (not_below _ _ short.short) in
      whole_is
      ∙ ap (λ (c : Cut). in_front so_far.done (report files.size run number c (held ++ more))) cut
      ∙ ap (λ (l : List ℕ). in_front so_far.done (report files.size run number Above l)) (ap (λ (l : List ℕ). held ++ l) no_more ∙ append-nil held)
      ∙ ap (λ (r : Report). in_front so_far.done r) (report_none files.size run number Above held short.none ∙ piece)

  came_is : came script (Some rest) ≡ consumed ++ held
  came_is =
      let script_is : script ≡ (consumed ++ held) ++ rest = parts ∙ sym (append_assoc consumed held rest) in
      let count : length script - length rest ≡ length (consumed ++ held) = omega (arith, ap length script_is, length-append (consumed ++ held) rest) in
      ap (λ (k : ℕ). take k script) count ∙ ap (λ (l : List ℕ). take (length (consumed ++ held)) l) script_is ∙ take-append_seam (consumed ++ held) rest

  -- the source failed
  pub at_broken : IsShort held → report files.size first 1 Broken (came script (Some rest)) ≡ in_front so_far.done (ends ReadFault)
  at_broken short =
      let there : came script (Some rest) ≡ consumed ++ held = came_is in
      let piece : last_piece files.size Broken run number held ≡ ends ReadFault = ap (λ (t : Bool). if t then ends (Fault number) else ends ReadFault) (not_below _ _ short.short) in
      ap (λ (l : List ℕ). report files.size first 1 Broken l) there
      ∙ so_far.goes_on Broken held
      ∙ ap (λ (r : Report). in_front so_far.done r) (report_none files.size run number Broken held short.none ∙ piece)

-- where the source hasn't failed, the report is of the whole script
pub other : (size : ℕ) (ending : Ending) (run : Run) (script : List ℕ) (left : Option (List ℕ)) → (ending ≡ ReadFault → ⊥) → reported size ending run script left ≡ report size run 1 (cut_of script) (take script_limit script)
other size Done first script left isnt = refl
other size (Fault n) first script left isnt = refl
other size TooLong first script left isnt = refl
other size ReadFault first script left isnt = absurd (isnt refl)
other size WriteFault first script left isnt = refl
other size DiskFault first script left isnt = refl
other size NoMemory first script left isnt = refl
other size (Damaged base generation at) first script left isnt = refl

module _ {D : Type 0} (view : D → View) (files : Files) where
  -- before the first piece
  pub met_first : (h : HostState D Parts) (first : Run) → IsAt view files h first → (script held : List ℕ) (taken : ℕ) (left : Option (List ℕ)) (written : Option (List ℕ)) (clients : Clients)
      → held ≡ [] → taken ≡ 0 → left ≡ Some script → HasClients first clients → Met view files h h first 1 script held taken left written written clients
  met_first h first at script held taken left written clients none zero left_is are = record {
    consumed = [];
    rest = script;
    so_far = at_first files first (view h.disk) at.rest;
    at = at;
    parts = ap (λ (l : List ℕ). l ++ script) (sym none);
    left_is = left_is;
    taken_is = omega (arith, zero, ap length none);
    wrote = wrote_none written;
    clients_are = are;
  }

  module _ (old now : HostState D Parts) (first : Run) (number : ℕ) (script held : List ℕ) (taken : ℕ) (left : Option (List ℕ)) (written written' : Option (List ℕ)) (clients : Clients)
      (m : Met view files old now first number script held taken left written written' clients) where
    abbrev v : View
    v = view old.disk

    abbrev w : View
    w = view now.disk

    abbrev here : Run
    here = after files.size first m.so_far.done

    exit : (small : Report) (new : View) (ending : Ending) (written'' : Option (List ℕ)) → HasRun files small w new here written' written'' ending → (told : Report) → told ≡ in_front m.so_far.done small
        → HasRun files told v new first written written'' ending
    exit small new ending written'' e told is = record {
      text = printed m.so_far.done ++ e.text;
      wrote = wrote_more written written' written'' (printed m.so_far.done) e.text m.wrote e.wrote;
      ended = subst (λ (r : Report). Ended files first r v new (printed m.so_far.done ++ e.text) ending) (sym is) (ends_after files first m.so_far.done v w m.so_far.did small new e.text ending e.ended);
    }

    complete : (ending : Ending) → IsComplete ending (ends ending) 0 0 []
    complete ending = record { ending_is = refl; all = refl; nothing_ahead = refl; no_part = refl }

    -- no memory was left
    pub memory_exit : taken ≤ script_limit → HasRun files (report files.size first 1 (cut_of script) (take script_limit script)) v w first written written' NoMemory
    memory_exit bound =
        let limit : length m.consumed + length held ≤ script_limit = omega (arith, bound, m.taken_is) in
        let small = report files.size here number (cut_of script) (held ++ more files first number v w m.consumed m.so_far script held m.rest m.parts limit) in
        exit small w NoMemory written' (record { text = []; wrote = wrote_none written'; ended = stays files here small w NoMemory m.at.rest (inl refl) (λ no. absurd (cc no)) }) _
        (whole_is files first number v w m.consumed m.so_far script held m.rest m.parts limit)

    module _ (held' : List ℕ) (taken' : ℕ) (left' : Option (List ℕ)) (bound : taken' ≤ script_limit) where
      module _ (found : Result Piece ReadError) (f : Finds m.rest held held' taken taken' left' found) where
        abbrev parts' : script ≡ m.consumed ++ (held' ++ f.rest)
        parts' = parts_more script m.consumed held held' m.rest f.rest taken taken' m.parts f.takes

        taken_is' : taken' ≡ length m.consumed + length held'
        taken_is' = taken_more m.consumed held held' m.rest f.rest taken taken' m.taken_is f.takes

        limit' : length m.consumed + length held' ≤ script_limit
        limit' = omega (arith, bound, taken_is')

        -- the first line is too long
        pub long_exit : IsTooLong held' → HasRun files (report files.size first 1 (cut_of script) (take script_limit script)) v w first written written' (Fault number)
        long_exit long =
            exit (ends (Fault number)) w (Fault number) written' (record { text = []; wrote = wrote_none written'; ended = stays files here (ends (Fault number)) w (Fault number) m.at.rest (complete (Fault number)) (λ is. m.at.rest.laid_out) }) _
            (at_long files first number v w m.consumed m.so_far script held' f.rest parts' limit' long)

        -- the script goes on above its limit
        pub above_exit : IsShort held' → taken' ≡ script_limit → 0 < length f.rest → HasRun files (report files.size first 1 (cut_of script) (take script_limit script)) v w first written written' TooLong
        above_exit short full some =
            exit (ends TooLong) w TooLong written' (record { text = []; wrote = wrote_none written'; ended = stays files here (ends TooLong) w TooLong m.at.rest (complete TooLong) (λ is. m.at.rest.laid_out) }) _
            (at_above files first number v w m.consumed m.so_far script held' f.rest parts' limit' short (omega (arith, full, taken_is')) some)

        -- the source failed
        pub broken_exit : IsShort held' → left' ≡ Some f.rest → HasRun files (reported files.size ReadFault first script left') v w first written written' ReadFault
        broken_exit short left_is =
            exit (ends ReadFault) w ReadFault written' (record { text = []; wrote = wrote_none written'; ended = stays files here (ends ReadFault) w ReadFault m.at.rest (complete ReadFault) (λ is. m.at.rest.laid_out) }) _
            (ap (λ (l : Option (List ℕ)). report files.size first 1 Broken (came script l)) left_is ∙ at_broken files first number v w m.consumed m.so_far script held' f.rest parts' limit' short)

        -- the last line was answered, or the run ended in it
        pub last_exit : (piece : List ℕ) → piece ≡ held' → IsShort held' → f.rest ≡ [] → (new : View) (ending : Ending) (written'' : Option (List ℕ)) → (ending ≡ ReadFault → ⊥) → HasRun files (last_piece files.size Whole here number piece) w new here written' written'' ending
            → HasRun files (reported files.size ending first script left') v new first written written'' ending
        last_exit piece is short none new ending written'' isnt e =
            exit (last_piece files.size Whole here number held') new ending written'' (subst (λ (l : List ℕ). HasRun files (last_piece files.size Whole here number l) w new here written' written'' ending) is e) _
            (other files.size ending first script left' isnt ∙ at_last files first number v w m.consumed m.so_far script held' f.rest parts' limit' short none)

        -- the run ended in a line
        pub line_exit : (n : ℕ) → EndsAt held' n → (line : List ℕ) → line ≡ take n held' → (new : View) (ending : Ending) (written'' : Option (List ℕ)) → (ending ≡ ReadFault → ⊥)
            → HasEndedIn files line number w new here written' written'' ending → HasRun files (reported files.size ending first script left') v new first written written'' ending
        line_exit n at line is new ending written'' isnt e =
            let rest = behind files first number v w m.consumed m.so_far script held' f.rest parts' limit' n in
            exit (one files.size (command (take n held')) here number rest) new ending written'' (subst (λ (l : List ℕ). HasRun files (one files.size (command l) here number rest) w new here written' written'' ending) is (e rest)) _
            (other files.size ending first script left' isnt ∙ at_line files first number v w m.consumed m.so_far script held' f.rest parts' limit' n at)

        -- a line was answered
        pub after_turn : (n : ℕ) → EndsAt held' n → left' ≡ Some f.rest → (line : List ℕ) → line ≡ take n held' → (new : HostState D Parts) (written'' : Option (List ℕ)) (clients' : Clients) → HasTurned view files line now new here written' written'' clients'
            → (skipped : List ℕ) → skipped ≡ drop (n + 1) held' → (taken'' : ℕ) → taken'' ≡ taken' → Met view files old new first (number + 1) script skipped taken'' left' written written'' clients'
        after_turn n at left_is line is new written'' clients' turned skipped skipped_is taken'' taken_same = record {
          consumed = m.consumed ++ (take n held' ++ 10 ∷ []);
          rest = f.rest;
          so_far = one_more files first number m.consumed v w m.so_far (take n held') turned.acts (view new.disk) at.none_before
              (λ number rest. ap (λ (l : List ℕ). one files.size (command l) here number rest) (sym is) ∙ turned.is number rest) turned.answered.did;
          at = subst (IsAt view files new) (after-append files.size first m.so_far.done turned.acts) turned.answered.at;
          parts = parts'
              ∙ ap (λ (l : List ℕ). m.consumed ++ (l ++ f.rest)) (at.feed ∙ sym (append_assoc (take n held') (10 ∷ []) (drop (n + 1) held')))
              ∙ ap (λ (l : List ℕ). m.consumed ++ l) (append_assoc (take n held' ++ 10 ∷ []) (drop (n + 1) held') f.rest)
              ∙ sym (append_assoc m.consumed (take n held' ++ 10 ∷ []) (drop (n + 1) held' ++ f.rest))
              ∙ ap (λ (l : List ℕ). (m.consumed ++ (take n held' ++ 10 ∷ [])) ++ (l ++ f.rest)) (sym skipped_is);
          left_is = left_is;
          taken_is = omega (arith, taken_same, ap length skipped_is, taken_is', ap length at.feed, length-append (take n held') (10 ∷ drop (n + 1) held'), length-append m.consumed (take n held' ++ 10 ∷ []), length-append (take n held') (10 ∷ []));
          wrote = wrote_as written written'' _ _ (sym (printed-append m.so_far.done turned.acts)) (wrote_more written written' written'' (printed m.so_far.done) (printed turned.acts) m.wrote turned.answered.wrote);
          clients_are = subst (λ (r : Run). HasClients r clients') (after-append files.size first m.so_far.done turned.acts) turned.clients_are;
        }
