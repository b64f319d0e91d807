-- How many bytes a spelling has.
use Rattle.std.proofs.Common.{◌≡◌, ◌+◌, ◌*◌, ℕ, ℤ, ◌≤◌, List, [], ◌∷◌, ◌++◌, length, Result, Ok, Err, ap, arith, refl, length-append}
use Rattle.std.specs.Prelude.{OnOk}
use Rattle.std.specs.List.{flat_map, AllByRecursion}
use Rattle.std.proofs.lemmas.List.Concat.{flat_map-cons}
use Rattle.host_types.specs.declared.entry.Entry.{Entry}
use Rattle.host_types.specs.declared.entry.Body.{Body}
use Rattle.host_types.specs.declared.entry.Body.TheVariants as bodies
use Rattle.host_types.specs.declared.entry.Cell.{Cell}
use Rattle.host_types.specs.declared.entry.Cell.TheVariants as cells
use Rattle.host_types.specs.declared.entry.Content.{Content}
use Rattle.host_types.specs.declared.entry.Content.TheVariants as contents
use Rattle.host_types.specs.declared.entry.Effect.{Effect}
use Rattle.host_types.specs.declared.entry.Effect.TheVariants as effects
use Rattle.host_types.specs.declared.entry.Reply.{Reply}
use Rattle.host_types.specs.declared.entry.Reply.TheVariants as replies
use Rattle.entry_codec.specs.Spelled.{number_spelled, signed_spelled, text_spelled, flag_of, kind_tag, owner_number, cell_spelled, content_spelled, effect_spelled, reply_spelled, body_spelled, spelled, IsKey, IsWord, CellFits, ContentFits, EffectFits, ReplyFits, BodyFits, EntryFits}

pub number_size : (n : ℕ) → length (number_spelled n) ≡ 8
unfolding number_spelled
number_size n = refl

pub signed_size : (z : ℤ) → length (signed_spelled z) ≡ 8
unfolding signed_spelled
signed_size z = refl

pub text_size : (text : List ℕ) → length (text_spelled text) ≡ length text + 2
unfolding text_spelled
text_size text = omega arith

key_size : (key : List ℕ) → IsKey key → length (text_spelled key) ≤ 257
key_size key is = omega (arith, text_size key, is.1)

word_size : (word : List ℕ) → IsWord word → length (text_spelled word) ≤ 4098
word_size word is = omega (arith, text_size word, is.1)

cell_size : (cell : Cell) → CellFits cell → length (cell_spelled cell) ≤ 4356
unfolding cell_spelled
cell_size cells.One fits = omega arith
cell_size (cells.Named key) fits = omega (arith, key_size key fits)
cell_size (cells.Member word) fits = omega (arith, word_size word fits)
cell_size (cells.Pair key word) fits = omega (arith, length-append (text_spelled key) (text_spelled word), key_size key fits.0, word_size word fits.1)
cell_size (cells.At index) fits = omega (arith, number_size index)
cell_size (cells.Waiter session id) fits = omega (arith, length-append (number_spelled session) (number_spelled id), number_size session, number_size id)
cell_size (cells.Of session) fits = omega (arith, number_size session)

content_size : (content : Content) → ContentFits content → length (content_spelled content) ≤ 4099
unfolding content_spelled
content_size contents.Mark fits = omega arith
content_size (contents.Text word) fits = omega (arith, word_size word fits)
content_size (contents.Number number) fits = omega (arith, signed_size number)

effect_size : (effect : Effect) → EffectFits effect → length (effect_spelled effect) ≤ 8472
unfolding effect_spelled
effect_size effects.Nothing fits = omega arith
effect_size (effects.Create name kind) fits = omega (arith, length-append (text_spelled name) (kind_tag kind ∷ []), key_size name fits)
effect_size (effects.Delete name instance) fits = omega (arith, length-append (text_spelled name) (number_spelled instance), key_size name fits.0, number_size instance)
effect_size (effects.Put instance cell content owner) fits =
    omega (
      arith,
      length-append (number_spelled instance ++ cell_spelled cell ++ content_spelled content) (number_spelled (owner_number owner)),
      length-append (number_spelled instance ++ cell_spelled cell) (content_spelled content),
      length-append (number_spelled instance) (cell_spelled cell),
      number_size instance,
      cell_size cell fits.1,
      content_size content fits.2,
      number_size (owner_number owner),
    )
effect_size (effects.Drop instance cell) fits = omega (arith, length-append (number_spelled instance) (cell_spelled cell), number_size instance, cell_size cell fits.1)
effect_size (effects.Wipe instance) fits = omega (arith, number_size instance)
effect_size (effects.WipeKey instance key) fits = omega (arith, length-append (number_spelled instance) (text_spelled key), number_size instance, key_size key fits.1)
effect_size (effects.Tell instance word) fits = omega (arith, length-append (number_spelled instance) (text_spelled word), number_size instance, word_size word fits.1)

words_size : (words : List (List ℕ)) → AllByRecursion IsWord words → length (flat_map text_spelled words) ≤ 4098 * length words
words_size [] fits = omega arith
words_size (word ∷ words) fits =
    omega (arith, ap length (flat_map-cons text_spelled word words), length-append (text_spelled word) (flat_map text_spelled words), word_size word fits.0, words_size words fits.1)

indexes_size : (indexes : List ℕ) → length (flat_map number_spelled indexes) ≡ 8 * length indexes
indexes_size [] = refl
indexes_size (index ∷ indexes) =
    omega (arith, ap length (flat_map-cons number_spelled index indexes), length-append (number_spelled index) (flat_map number_spelled indexes), number_size index, indexes_size indexes)

reply_size : (reply : Reply) → ReplyFits reply → length (reply_spelled reply) ≤ 65570
unfolding reply_spelled
reply_size replies.None fits = omega arith
reply_size (replies.Text word) fits = omega (arith, word_size word fits)
reply_size (replies.Number number) fits = omega (arith, signed_size number)
reply_size (replies.Truth truth) fits = omega arith
reply_size (replies.Index index) fits = omega (arith, number_size index)
reply_size (replies.Holder session id) fits = omega (arith, length-append (number_spelled session) (number_spelled id), number_size session, number_size id)
reply_size (replies.Words words) fits = omega (arith, words_size words fits.1, fits.0)
reply_size (replies.Indexes indexes) fits = omega (arith, indexes_size indexes, fits.0)

body_size : (body : Body) → BodyFits body → (1 ≤ length (body_spelled body)) × (length (body_spelled body) ≤ 74059)
unfolding body_spelled
body_size (bodies.Register timeout) fits = (omega arith, omega (arith, number_size timeout))
body_size (bodies.Alive session seq event) fits =
    (omega arith, omega (arith, length-append (number_spelled session ++ number_spelled seq) (number_spelled event), length-append (number_spelled session) (number_spelled seq), number_size session, number_size seq, number_size event))
body_size (bodies.Close session expired) fits = (omega arith, omega (arith, length-append (number_spelled session) (flag_of expired ∷ []), number_size session))
body_size bodies.Tick fits = (omega arith, omega arith)
body_size (bodies.Command session seq effect reply) fits = (
  omega arith,
  omega (
    arith,
    length-append (number_spelled session ++ number_spelled seq ++ effect_spelled effect) (reply_spelled reply),
    length-append (number_spelled session ++ number_spelled seq) (effect_spelled effect),
    length-append (number_spelled session) (number_spelled seq),
    number_size session,
    number_size seq,
    effect_size effect fits.2,
    reply_size reply fits.3,
  ),
)

-- the shortest is a tick's
pub least_size : (index : ℕ) (entry : Entry) → EntryFits entry → 17 ≤ length (spelled index entry)
unfolding spelled
least_size index entry fits =
    omega (arith, length-append (number_spelled index ++ number_spelled entry.time) (body_spelled entry.body), length-append (number_spelled index) (number_spelled entry.time), number_size index, number_size entry.time, (body_size entry.body fits.body).0)

pub greatest_size : (index : ℕ) (entry : Entry) → EntryFits entry → length (spelled index entry) ≤ 131072
unfolding spelled
greatest_size index entry fits =
    omega (arith, length-append (number_spelled index ++ number_spelled entry.time) (body_spelled entry.body), length-append (number_spelled index) (number_spelled entry.time), number_size index, number_size entry.time, (body_size entry.body fits.body).1)

-- so much longer is what was written to
pub grows_least : {A E : Type 0} (r : Result A E) (old new : List ℕ) (index : ℕ) (entry : Entry) → OnOk r (new ≡ old ++ spelled index entry) → OnOk r (EntryFits entry) → OnOk r (length old + 17 ≤ length new)
grows_least (Ok x) old new index entry is fits = omega (arith, ap length is, length-append old (spelled index entry), least_size index entry fits)
grows_least (Err e) old new index entry is fits = tt

pub grows_most : {A E : Type 0} (r : Result A E) (old new : List ℕ) (index : ℕ) (entry : Entry) → OnOk r (new ≡ old ++ spelled index entry) → OnOk r (EntryFits entry) → OnOk r (length new ≤ length old + 131072)
grows_most (Ok x) old new index entry is fits = omega (arith, ap length is, length-append old (spelled index entry), greatest_size index entry fits)
grows_most (Err e) old new index entry is fits = tt
