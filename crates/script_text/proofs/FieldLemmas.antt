-- What the readers of keys and words find.
use Rattle.std.proofs.Common.{◌≡◌, ℕ, ◌≤◌, true, false, not, Bool, List, [], ◌∷◌, length, Some, None, Result, Ok, Err, refl, arith}
use Rattle.std.specs.Prelude.{IsErrAnd}
use Rattle.script_text.specs.declared.line.LineFault.{LineFault}
use Rattle.std.specs.List.{list_all, position_or_len}
use Rattle.std.proofs.lemmas.Grind.{common_steps}
use Rattle.host_types.specs.Text.{is_visible, first_hidden, text_fault, FailsAsText}
use Rattle.host_types.specs.declared.text.WordFault.{WordFault}
use Rattle.host_types.specs.declared.text.WordFault.TheVariants.{Empty, TooLong, BadByte, NoMemory}
use Rattle.script_text.specs.Faults.{Reads, fault_of}
use Rattle.script_text.specs.Reading.{is_text, text_within}

-- where all bytes are visible, all are passed
all_passed : (bytes : List ℕ) → list_all is_visible bytes ≡ true → length bytes ≤ position_or_len (λ byte. not (is_visible byte)) bytes
all_passed [] all = omega arith
all_passed (byte ∷ bytes) all = grind (arith, common_steps, all_passed bytes)

-- and none is found that isn't
none_found : (bytes : List ℕ) → list_all is_visible bytes ≡ true → first_hidden bytes ≡ None
none_found bytes all = grind (arith, common_steps, all_passed bytes all)

-- what is a text has no fault
no_fault : (limit : ℕ) (bytes : List ℕ) → is_text limit bytes ≡ true → text_fault limit bytes ≡ None
no_fault limit [] is = grind (arith, common_steps)
no_fault limit (byte ∷ bytes) is = grind (arith, common_steps, none_found (byte ∷ bytes))

-- a text is found where there is no fault
found_none : (b : Bool) (limit : ℕ) (bytes : List ℕ) (fault : WordFault) → is_text limit bytes ≡ b → text_fault limit bytes ≡ Some fault → text_within limit bytes ≡ None
found_none true limit bytes fault is e = absurd (cc (no_fault limit bytes is))
found_none false limit bytes fault is e = rw is refl

-- why a key or a word can't be read is that it is none
pub fails_reads : (limit : ℕ) (bytes : List ℕ) (fault : WordFault) → FailsAsText limit bytes fault → Reads {A = List ℕ} (Err (fault_of fault)) (text_within limit bytes)
fails_reads limit bytes Empty h = found_none (is_text limit bytes) limit bytes Empty refl h
fails_reads limit bytes TooLong h = found_none (is_text limit bytes) limit bytes TooLong refl h
fails_reads limit bytes (BadByte at) h = found_none (is_text limit bytes) limit bytes (BadByte at) refl h
fails_reads limit bytes NoMemory h = tt

-- the same of what is handed on
pub err_reads : (limit : ℕ) (bytes : List ℕ) (r : Result (List ℕ) LineFault) (fault : WordFault) → IsErrAnd r (λ given. given ≡ fault_of fault) → FailsAsText limit bytes fault → Reads r (text_within limit bytes)
err_reads limit bytes (Ok found) fault is h = absurd is
err_reads limit bytes (Err given) fault is h = rw is (fails_reads limit bytes fault h)
