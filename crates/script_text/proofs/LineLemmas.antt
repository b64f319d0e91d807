-- Lines are read as they are written.
use Rattle.std.proofs.Common.{◌≡◌, ℕ, ◌<◌, ◌^◌, true, false, Bool, List, [], ◌∷◌, map, Option, Some, None, Result, Ok, Err, cond, refl, ap, sym, ◌∙◌, subst}
use Rattle.std.specs.Prelude.{option_and_then, codes, IfOk}
use Rattle.std.specs.Option.{option_map}
use Rattle.std.specs.List.{AllByRecursion, join_with_byte}
use Rattle.std.specs.Fmt.{decimal}
use Rattle.std.specs.Str.{IsUtf8}
use Rattle.std.proofs.lemmas.List.Splits.{join_with_byte-slice_split}
use Rattle.std.proofs.lemmas.Option.{same_Some, cond_some}
use Rattle.host_types.specs.Limits.{key_limit}
use Rattle.host_types.specs.declared.entry.Op.{Op}
use Rattle.host_types.specs.declared.entry.Offer as offers
use Rattle.host_types.specs.declared.entry.Ask as asked
use Rattle.host_types.specs.declared.entry.Ask.TheVariants.{Register, Alive, Unregister, Tick, Command}
use Rattle.script_text.specs.declared.line.Line as lines
use Rattle.script_text.specs.declared.line.Line.TheVariants.{Skip, Offer, Ask, Take, Global, Minor, Major, Census, Quiet, Reopen}
use Rattle.script_text.specs.declared.line.LineFault.{LineFault}
use Rattle.script_text.specs.Faults.{Reads}
use Rattle.script_text.specs.Tables.{lookup}
use Rattle.script_text.specs.Parts.{Part, part_text, AllFit, text_of}
use Rattle.script_text.specs.Operations.{op_parts, looks}
use Rattle.script_text.specs.Lines.{offer_parts, line_parts, is_skipped, IsAllowed, IsTextOf}
use Rattle.script_text.specs.Reading.{number, key, op_read, offer_at, one_number, two_numbers, alive_read, command_read, offer_forms, offer_read, if_looks, ask_read, alone, line_forms, form_read, words_read, words_of, line_read}
use Rattle.script_text.proofs.NumberLemmas.{number_again, number_found}
use Rattle.script_text.proofs.PartLemmas.{plain_parts, text_again, text_found}
use Rattle.script_text.proofs.SplitLemmas.{IsPlain, words_of-joined, joined_text}
use Rattle.script_text.proofs.TableLemmas.{lookup_found, mapped_some, chained_some}
use Rattle.script_text.proofs.OpLemmas.{op_found, op_again}

-- these words are an offer
abbrev IsOffer : List (List ℕ) → offers.Offer → Type 0
IsOffer words offer = AllFit (offer_parts offer.time offer.ask) × (words ≡ map part_text (offer_parts offer.time offer.ask))

-- these words are a line
abbrev IsLine : List (List ℕ) → lines.Line → Type 0
IsLine words Skip = ⊥
IsLine words line = AllFit (line_parts line) × IsAllowed line × (words ≡ map part_text (line_parts line))

one_found : (arguments : List (List ℕ)) (n : ℕ) → one_number arguments ≡ Some n → (n < 2 ^ 64) × (arguments ≡ decimal n ∷ [])
one_found [] n e = absurd (cc)
one_found (a ∷ []) n e = let found = number_found a n e in (found.0, ap (λ (b : List ℕ). b ∷ []) found.1)
one_found (a ∷ b ∷ arguments) n e = absurd (cc)

two_found : (arguments : List (List ℕ)) (p : ℕ × ℕ) → two_numbers arguments ≡ Some p → (p.0 < 2 ^ 64) × (p.1 < 2 ^ 64) × (arguments ≡ decimal p.0 ∷ decimal p.1 ∷ [])
two_found [] p e = absurd (cc)
two_found (a ∷ []) p e = absurd (cc)
two_found (a ∷ b ∷ c ∷ arguments) p e = absurd (cc)
two_found (a ∷ b ∷ []) p e =
    let m = chained_some (λ (m : ℕ). option_map (λ (n : ℕ). (m, n)) (number b)) (number a) p e in
    let n = mapped_some (λ (n : ℕ). (m.0, n)) (number b) p m.2 in
    let first = number_found a m.0 m.1 in
    let second = number_found b n.0 n.1 in
    let P : ℕ × ℕ → Type 0 = λ p. (p.0 < 2 ^ 64) × (p.1 < 2 ^ 64) × ((a ∷ b ∷ []) ≡ decimal p.0 ∷ decimal p.1 ∷ []) in
    subst P n.2 (first.0, second.0, ap (λ (x : List ℕ). x ∷ b ∷ []) first.1 ∙ ap (λ (x : List ℕ). decimal m.0 ∷ x ∷ []) second.1)

OfferForm : List ℕ → (List (List ℕ) → Option offers.Offer) → Type 0
OfferForm form read = (arguments : List (List ℕ)) (offer : offers.Offer) → read arguments ≡ Some offer → IsOffer (form ∷ arguments) offer

two_offer : (form : List ℕ) (make : ℕ → asked.Ask) → ((m n : ℕ) → m < 2 ^ 64 → n < 2 ^ 64 → IsOffer (form ∷ decimal m ∷ decimal n ∷ []) (offer_at m (make n))) → OfferForm form (λ arguments. option_map (λ (p : ℕ × ℕ). offer_at p.0 (make p.1)) (two_numbers arguments))
unfolding OfferForm
two_offer form make written arguments offer e =
    let p = mapped_some (λ (p : ℕ × ℕ). offer_at p.0 (make p.1)) (two_numbers arguments) offer e in
    let found = two_found arguments p.0 p.1 in
    subst (λ (offer : offers.Offer). IsOffer (form ∷ arguments) offer) p.2 (subst (λ (a : List (List ℕ)). IsOffer (form ∷ a) (offer_at p.0.0 (make p.0.1))) (sym found.2) (written p.0.0 p.0.1 found.0 found.1))

tick_offer : OfferForm (codes "tick") (λ arguments. option_map (λ n. offer_at n Tick) (one_number arguments))
unfolding OfferForm
tick_offer arguments offer e =
    let n = mapped_some (λ (n : ℕ). offer_at n Tick) (one_number arguments) offer e in
    let found = one_found arguments n.0 n.1 in
    subst (λ (offer : offers.Offer). IsOffer (codes "tick" ∷ arguments) offer) n.2 (subst (λ (a : List (List ℕ)). IsOffer (codes "tick" ∷ a) (offer_at n.0 Tick)) (sym found.1) ((refl, (found.0, tt)), refl))

alive_offer : OfferForm (codes "alive") alive_read
unfolding OfferForm
alive_offer (time ∷ session ∷ seq ∷ event ∷ []) offer e =
    let t = chained_some (λ (t : ℕ). option_and_then (λ (s : ℕ). option_and_then (λ (q : ℕ). option_map (λ (v : ℕ). offer_at t (Alive s q v)) (number event)) (number seq)) (number session)) (number time) offer e in
    let s = chained_some (λ (s : ℕ). option_and_then (λ (q : ℕ). option_map (λ (v : ℕ). offer_at t.0 (Alive s q v)) (number event)) (number seq)) (number session) offer t.2 in
    let q = chained_some (λ (q : ℕ). option_map (λ (v : ℕ). offer_at t.0 (Alive s.0 q v)) (number event)) (number seq) offer s.2 in
    let v = mapped_some (λ (v : ℕ). offer_at t.0 (Alive s.0 q.0 v)) (number event) offer q.2 in
    let at = number_found time t.0 t.1 in
    let by = number_found session s.0 s.1 in
    let after = number_found seq q.0 q.1 in
    let of = number_found event v.0 v.1 in
    let words : (codes "alive" ∷ time ∷ session ∷ seq ∷ event ∷ []) ≡ codes "alive" ∷ decimal t.0 ∷ decimal s.0 ∷ decimal q.0 ∷ decimal v.0 ∷ [] = cc in
    subst (λ (offer : offers.Offer). IsOffer (codes "alive" ∷ time ∷ session ∷ seq ∷ event ∷ []) offer) v.2 ((refl, (at.0, (by.0, (after.0, (of.0, tt))))), words)
alive_offer [] offer e = absurd (cc)
alive_offer (a ∷ []) offer e = absurd (cc)
alive_offer (a ∷ b ∷ []) offer e = absurd (cc)
alive_offer (a ∷ b ∷ c ∷ []) offer e = absurd (cc)
alive_offer (a ∷ b ∷ c ∷ d ∷ x ∷ more) offer e = absurd (cc)

command_offer : OfferForm (codes "do") command_read
unfolding OfferForm
command_offer (time ∷ session ∷ seq ∷ verb ∷ name ∷ arguments) offer e =
    let t = chained_some (λ (t : ℕ). option_and_then (λ (s : ℕ). option_and_then (λ (q : ℕ). option_and_then (λ (k : List ℕ). option_map (λ (op : Op). offer_at t (Command s q k op)) (op_read verb arguments)) (key name)) (number seq)) (number session)) (number time) offer e in
    let s = chained_some (λ (s : ℕ). option_and_then (λ (q : ℕ). option_and_then (λ (k : List ℕ). option_map (λ (op : Op). offer_at t.0 (Command s q k op)) (op_read verb arguments)) (key name)) (number seq)) (number session) offer t.2 in
    let q = chained_some (λ (q : ℕ). option_and_then (λ (k : List ℕ). option_map (λ (op : Op). offer_at t.0 (Command s.0 q k op)) (op_read verb arguments)) (key name)) (number seq) offer s.2 in
    let k = chained_some (λ (k : List ℕ). option_map (λ (op : Op). offer_at t.0 (Command s.0 q.0 k op)) (op_read verb arguments)) (key name) offer q.2 in
    let op = mapped_some (λ (op : Op). offer_at t.0 (Command s.0 q.0 k.0 op)) (op_read verb arguments) offer k.2 in
    let at = number_found time t.0 t.1 in
    let by = number_found session s.0 s.1 in
    let after = number_found seq q.0 q.1 in
    let named = text_found key_limit name k.0 k.1 in
    let does = op_found verb arguments op.0 op.1 k.0 in
    let same : (verb ∷ name ∷ arguments) ≡ verb ∷ k.0 ∷ arguments = ap (λ (n : List ℕ). verb ∷ n ∷ arguments) named.0 in
    let words : (codes "do" ∷ time ∷ session ∷ seq ∷ verb ∷ name ∷ arguments) ≡ codes "do" ∷ decimal t.0 ∷ decimal s.0 ∷ decimal q.0 ∷ map part_text (op_parts k.0 op.0) =
    ap (λ (x : List ℕ). codes "do" ∷ x ∷ session ∷ seq ∷ verb ∷ name ∷ arguments) at.1
    ∙ ap (λ (x : List ℕ). codes "do" ∷ decimal t.0 ∷ x ∷ seq ∷ verb ∷ name ∷ arguments) by.1
    ∙ ap (λ (x : List ℕ). codes "do" ∷ decimal t.0 ∷ decimal s.0 ∷ x ∷ verb ∷ name ∷ arguments) after.1
    ∙ ap (λ (x : List (List ℕ)). codes "do" ∷ decimal t.0 ∷ decimal s.0 ∷ decimal q.0 ∷ x) (same ∙ does.0) in
    subst (λ (offer : offers.Offer). IsOffer (codes "do" ∷ time ∷ session ∷ seq ∷ verb ∷ name ∷ arguments) offer) op.2 ((refl, (at.0, (by.0, (after.0, does.1 named.1)))), words)
command_offer [] offer e = absurd (cc)
command_offer (a ∷ []) offer e = absurd (cc)
command_offer (a ∷ b ∷ []) offer e = absurd (cc)
command_offer (a ∷ b ∷ c ∷ []) offer e = absurd (cc)
command_offer (a ∷ b ∷ c ∷ d ∷ []) offer e = absurd (cc)

offer_table : AllByRecursion (λ entry. OfferForm entry.0 entry.1) offer_forms
offer_table = (
  two_offer (codes "register") (λ n. Register n) (λ m n first second. ((refl, (first, (second, tt))), refl)),
  (
    alive_offer,
    (
      two_offer (codes "unregister") (λ n. Unregister n) (λ m n first second. ((refl, (first, (second, tt))), refl)),
      (
        tick_offer,
        (command_offer, tt),
      ),
    ),
  ),
)

offer_found : (form : List ℕ) (arguments : List (List ℕ)) (offer : offers.Offer) → offer_read form arguments ≡ Some offer → IsOffer (form ∷ arguments) offer
unfolding OfferForm
offer_found form arguments offer e =
    let read = chained_some (λ (read : List (List ℕ) → Option offers.Offer). read arguments) (lookup offer_forms form) offer e in
    lookup_found OfferForm offer_forms offer_table form read.0 read.1 arguments offer read.2

LineForm : List ℕ → (List (List ℕ) → Option lines.Line) → Type 0
LineForm form read = (arguments : List (List ℕ)) (line : lines.Line) → read arguments ≡ Some line → IsLine (form ∷ arguments) line

one_line : (form : List ℕ) (make : ℕ → lines.Line) → ((n : ℕ) → n < 2 ^ 64 → IsLine (form ∷ decimal n ∷ []) (make n)) → LineForm form (λ arguments. option_map make (one_number arguments))
unfolding LineForm
one_line form make written arguments line e =
    let n = mapped_some make (one_number arguments) line e in
    let found = one_found arguments n.0 n.1 in
    subst (λ (line : lines.Line). IsLine (form ∷ arguments) line) n.2 (subst (λ (a : List (List ℕ)). IsLine (form ∷ a) (make n.0)) (sym found.1) (written n.0 found.0))

major_line : LineForm (codes "major") (λ arguments. option_map (λ (p : ℕ × ℕ). Major p.0 p.1) (two_numbers arguments))
unfolding LineForm
major_line arguments line e =
    let p = mapped_some (λ (p : ℕ × ℕ). Major p.0 p.1) (two_numbers arguments) line e in
    let found = two_found arguments p.0 p.1 in
    subst (λ (line : lines.Line). IsLine (codes "major" ∷ arguments) line) p.2 (subst (λ (a : List (List ℕ)). IsLine (codes "major" ∷ a) (Major p.0.0 p.0.1)) (sym found.2) ((refl, (found.0, (found.1, tt))), tt, refl))

alone_line : (form : List ℕ) (it : lines.Line) → IsLine (form ∷ []) it → LineForm form (alone it)
unfolding LineForm
alone_line form it written [] line e = subst (λ (line : lines.Line). IsLine (form ∷ []) line) (same_Some it line e) written
alone_line form it written (a ∷ arguments) line e = absurd (cc)

ask_line : LineForm (codes "ask") ask_read
unfolding LineForm
ask_line [] line e = absurd (cc)
ask_line (a ∷ []) line e = absurd (cc)
ask_line (verb ∷ name ∷ arguments) line e =
    let k = chained_some (λ (k : List ℕ). option_and_then (if_looks k) (op_read verb arguments)) (key name) line e in
    let op = chained_some (if_looks k.0) (op_read verb arguments) line k.2 in
    let allowed = cond_some (looks op.0) (Ask k.0 op.0) line op.2 in
    let named = text_found key_limit name k.0 k.1 in
    let does = op_found verb arguments op.0 op.1 k.0 in
    let same : (verb ∷ name ∷ arguments) ≡ verb ∷ k.0 ∷ arguments = ap (λ (n : List ℕ). verb ∷ n ∷ arguments) named.0 in
    let words : (codes "ask" ∷ verb ∷ name ∷ arguments) ≡ codes "ask" ∷ map part_text (op_parts k.0 op.0) = ap (λ (x : List (List ℕ)). codes "ask" ∷ x) (same ∙ does.0) in
    subst (λ (line : lines.Line). IsLine (codes "ask" ∷ verb ∷ name ∷ arguments) line) allowed.1 ((refl, does.1 named.1), allowed.0, words)

line_table : AllByRecursion (λ entry. LineForm entry.0 entry.1) line_forms
line_table = (
  ask_line,
  (
    one_line (codes "take") (λ n. Take n) (λ n fits. ((refl, (fits, tt)), tt, refl)),
    (
      one_line (codes "global") (λ n. Global n) (λ n fits. ((refl, (fits, tt)), tt, refl)),
      (
        one_line (codes "minor") (λ n. Minor n) (λ n fits. ((refl, (fits, tt)), tt, refl)),
        (
          major_line,
          (
            alone_line (codes "census") Census ((refl, tt), tt, refl),
            (
              alone_line (codes "quiet") Quiet ((refl, tt), tt, refl),
              (alone_line (codes "reopen") Reopen ((refl, tt), tt, refl), tt),
            ),
          ),
        ),
      ),
    ),
  ),
)

form_found : (found : Option (List (List ℕ) → Option lines.Line)) (form : List ℕ) (arguments : List (List ℕ)) (line : lines.Line) → lookup line_forms form ≡ found → form_read found form arguments ≡ Some line → IsLine (form ∷ arguments) line
unfolding LineForm
form_found (Some read) form arguments line is e = lookup_found LineForm line_forms line_table form read is arguments line e
form_found None form arguments line is e =
    let offer = mapped_some (λ (offer : offers.Offer). Offer offer) (offer_read form arguments) line e in
    let found = offer_found form arguments offer.0 offer.1 in
    subst (λ (line : lines.Line). IsLine (form ∷ arguments) line) offer.2 (found.0, tt, found.1)

words_found : (words : List (List ℕ)) (line : lines.Line) → words_read words ≡ Some line → IsLine words line
words_found [] line e = absurd (cc)
words_found (form ∷ arguments) line e = form_found (lookup line_forms form) form arguments line refl e

-- words that are joined again are the line
joined : (bytes : List ℕ) (words : List (List ℕ)) (line : lines.Line) → join_with_byte 32 words ≡ bytes → IsLine words line → IsTextOf bytes line
joined bytes words Skip e is = absurd is
joined bytes words (Offer offer) e is = (is.0, is.1, sym e ∙ ap (join_with_byte 32) is.2)
joined bytes words (Ask name op) e is = (is.0, is.1, sym e ∙ ap (join_with_byte 32) is.2)
joined bytes words (Take n) e is = (is.0, is.1, sym e ∙ ap (join_with_byte 32) is.2)
joined bytes words (Global n) e is = (is.0, is.1, sym e ∙ ap (join_with_byte 32) is.2)
joined bytes words (Minor n) e is = (is.0, is.1, sym e ∙ ap (join_with_byte 32) is.2)
joined bytes words (Major m n) e is = (is.0, is.1, sym e ∙ ap (join_with_byte 32) is.2)
joined bytes words Census e is = (is.0, is.1, sym e ∙ ap (join_with_byte 32) is.2)
joined bytes words Quiet e is = (is.0, is.1, sym e ∙ ap (join_with_byte 32) is.2)
joined bytes words Reopen e is = (is.0, is.1, sym e ∙ ap (join_with_byte 32) is.2)

skip_or_words : (b : Bool) (bytes : List ℕ) (line : lines.Line) → is_skipped bytes ≡ b → cond b (Some Skip) (words_read (words_of bytes)) ≡ Some line → IsTextOf bytes line
skip_or_words true bytes line is e = subst (λ (line : lines.Line). IsTextOf bytes line) (same_Some Skip line e) is
skip_or_words false bytes line is e = joined bytes (words_of bytes) line (join_with_byte-slice_split 32 bytes) (words_found (words_of bytes) line e)

-- what is read is written so
pub line_found : (bytes : List ℕ) (line : lines.Line) → line_read bytes ≡ Some line → IsTextOf bytes line
unfolding line_read
line_found bytes line e = skip_or_words (is_skipped bytes) bytes line refl e

-- What is written for a line is read as it, where its words are so.
spelled : (bytes : List ℕ) (parts : List Part) (form : List ℕ) (rest : List (List ℕ)) (line : lines.Line) → map part_text parts ≡ form ∷ rest → AllFit parts → bytes ≡ text_of parts → is_skipped (join_with_byte 32 (form ∷ rest)) ≡ false → words_read (form ∷ rest) ≡ Some line → line_read bytes ≡ Some line
unfolding line_read
spelled bytes parts form rest line shape fit e skip read =
    let is : bytes ≡ join_with_byte 32 (form ∷ rest) = e ∙ ap (join_with_byte 32) shape in
    let plain : AllByRecursion IsPlain (form ∷ rest) = subst (λ (words : List (List ℕ)). AllByRecursion IsPlain words) shape (plain_parts parts fit) in
    let words : words_of bytes ≡ form ∷ rest = ap words_of is ∙ words_of-joined form rest plain in
    let kept : is_skipped bytes ≡ false = ap is_skipped is ∙ skip in
    rw (kept, words) read

offer_again : (bytes : List ℕ) (time : ℕ) (ask : asked.Ask) → AllFit (offer_parts time ask) → bytes ≡ text_of (offer_parts time ask) → line_read bytes ≡ Some (Offer (offer_at time ask))
offer_again bytes time (Register timeout) fit e =
    spelled bytes (offer_parts time (Register timeout)) (codes "register") (decimal time ∷ decimal timeout ∷ []) (Offer (offer_at time (Register timeout))) refl fit e refl (rw (number_again time fit.1.0, number_again timeout fit.1.1.0) refl)
offer_again bytes time (Alive session seq event) fit e =
    spelled bytes (offer_parts time (Alive session seq event)) (codes "alive") (decimal time ∷ decimal session ∷ decimal seq ∷ decimal event ∷ []) (Offer (offer_at time (Alive session seq event))) refl fit e refl (rw (number_again time fit.1.0, number_again session fit.1.1.0, number_again seq fit.1.1.1.0, number_again event fit.1.1.1.1.0) refl)
offer_again bytes time (Unregister session) fit e =
    spelled bytes (offer_parts time (Unregister session)) (codes "unregister") (decimal time ∷ decimal session ∷ []) (Offer (offer_at time (Unregister session))) refl fit e refl (rw (number_again time fit.1.0, number_again session fit.1.1.0) refl)
offer_again bytes time Tick fit e =
    spelled bytes (offer_parts time Tick) (codes "tick") (decimal time ∷ []) (Offer (offer_at time Tick)) refl fit e refl (rw (number_again time fit.1.0) refl)
offer_again bytes time (Command session seq name op) fit e =
    let does = op_again name op fit.1.1.1.1 in
    spelled bytes (offer_parts time (Command session seq name op)) (codes "do") (decimal time ∷ decimal session ∷ decimal seq ∷ does.0 ∷ name ∷ does.1) (Offer (offer_at time (Command session seq name op))) (ap (λ (x : List (List ℕ)). codes "do" ∷ decimal time ∷ decimal session ∷ decimal seq ∷ x) does.2) fit e refl (rw (number_again time fit.1.0, number_again session fit.1.1.0, number_again seq fit.1.1.1.0, text_again key_limit name does.4, does.3) refl)

-- what is written for a line is read as it
pub line_again : (bytes : List ℕ) (line : lines.Line) → IsTextOf bytes line → line_read bytes ≡ Some line
unfolding line_read
line_again bytes Skip is = rw is refl
line_again bytes (Offer offer) is = offer_again bytes offer.time offer.ask is.0 is.2
line_again bytes (Ask name op) is =
    let does = op_again name op is.0.1 in
    spelled bytes (line_parts (Ask name op)) (codes "ask") (does.0 ∷ name ∷ does.1) (Ask name op) (ap (λ (x : List (List ℕ)). codes "ask" ∷ x) does.2) is.0 is.2 refl (rw (text_again key_limit name does.4, does.3, is.1) refl)
line_again bytes (Take n) is = spelled bytes (line_parts (Take n)) (codes "take") (decimal n ∷ []) (Take n) refl is.0 is.2 refl (rw (number_again n is.0.1.0) refl)
line_again bytes (Global n) is = spelled bytes (line_parts (Global n)) (codes "global") (decimal n ∷ []) (Global n) refl is.0 is.2 refl (rw (number_again n is.0.1.0) refl)
line_again bytes (Minor n) is = spelled bytes (line_parts (Minor n)) (codes "minor") (decimal n ∷ []) (Minor n) refl is.0 is.2 refl (rw (number_again n is.0.1.0) refl)
line_again bytes (Major m n) is = spelled bytes (line_parts (Major m n)) (codes "major") (decimal m ∷ decimal n ∷ []) (Major m n) refl is.0 is.2 refl (rw (number_again m is.0.1.0, number_again n is.0.1.1.0) refl)
line_again bytes Census is = spelled bytes (line_parts Census) (codes "census") [] Census refl is.0 is.2 refl refl
line_again bytes Quiet is = spelled bytes (line_parts Quiet) (codes "quiet") [] Quiet refl is.0 is.2 refl refl
line_again bytes Reopen is = spelled bytes (line_parts Reopen) (codes "reopen") [] Reopen refl is.0 is.2 refl refl

text_is : (bytes : List ℕ) (parts : List Part) → AllFit parts → bytes ≡ text_of parts → IsUtf8 bytes
text_is bytes parts fit e = subst IsUtf8 (sym e) (joined_text (map part_text parts) (plain_parts parts fit))

-- a line that isn't skipped is a text
line_is_text : (bytes : List ℕ) (line : lines.Line) → is_skipped bytes ≡ false → IsTextOf bytes line → IsUtf8 bytes
line_is_text bytes Skip skip is = absurd (cc)
line_is_text bytes (Offer offer) skip is = text_is bytes (line_parts (Offer offer)) is.0 is.2
line_is_text bytes (Ask name op) skip is = text_is bytes (line_parts (Ask name op)) is.0 is.2
line_is_text bytes (Take n) skip is = text_is bytes (line_parts (Take n)) is.0 is.2
line_is_text bytes (Global n) skip is = text_is bytes (line_parts (Global n)) is.0 is.2
line_is_text bytes (Minor n) skip is = text_is bytes (line_parts (Minor n)) is.0 is.2
line_is_text bytes (Major m n) skip is = text_is bytes (line_parts (Major m n)) is.0 is.2
line_is_text bytes Census skip is = text_is bytes (line_parts Census) is.0 is.2
line_is_text bytes Quiet skip is = text_is bytes (line_parts Quiet) is.0 is.2
line_is_text bytes Reopen skip is = text_is bytes (line_parts Reopen) is.0 is.2

nothing_read : (bytes : List ℕ) (there : Option lines.Line) → line_read bytes ≡ there → is_skipped bytes ≡ false → (IsUtf8 bytes → ⊥) → there ≡ None
nothing_read bytes (Some line) read skip never = absurd (never (line_is_text bytes line skip (line_found bytes line read)))
nothing_read bytes None read skip never = refl

-- what is no text isn't read
pub no_text : (bytes : List ℕ) → is_skipped bytes ≡ false → (IsUtf8 bytes → ⊥) → line_read bytes ≡ None
no_text bytes skip never = nothing_read bytes (line_read bytes) refl skip never

-- what a reader gives that reads lines is written so
pub read_found : (bytes : List ℕ) (r : Result lines.Line LineFault) → Reads r (line_read bytes) → IfOk r (λ line. IsTextOf bytes line)
read_found bytes (Ok line) reads = line_found bytes line reads
read_found bytes (Err fault) reads = tt

-- and it gives what is written
pub read_only : (bytes : List ℕ) (r : Result lines.Line LineFault) → Reads r (line_read bytes) → (line : lines.Line) → IsTextOf bytes line → Reads r (Some line)
read_only bytes r reads line is = subst (λ (there : Option lines.Line). Reads r there) (line_again bytes line is) reads
