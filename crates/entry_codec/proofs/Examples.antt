-- The entry of docs/format.md, by both definitions: as it is spelled, as it is read, cut short, and with a wrong tag.
use Rattle.std.proofs.Common.{◌≡◌, ℕ, List, [], ◌∷◌, ◌++◌, take, drop, None, refl}
use Rattle.host_types.specs.declared.entry.Entry.{Entry}
use Rattle.host_types.specs.declared.entry.Body.TheVariants as bodies
use Rattle.host_types.specs.declared.entry.Cell.TheVariants as cells
use Rattle.host_types.specs.declared.entry.Content.TheVariants as contents
use Rattle.host_types.specs.declared.entry.Effect.TheVariants as effects
use Rattle.host_types.specs.declared.entry.Reply.TheVariants as replies
use Rattle.entry_codec.specs.Spelled.{number_spelled, text_spelled, cell_spelled, content_spelled, effect_spelled, reply_spelled, body_spelled, spelled}
use Rattle.entry_codec.specs.Reading.{byte_at, number_at, signed_at, bounded_at, count_at, flag_at, kind_at, length_at, whole_at, piece_at, text_at, pair_at, waiter_at, cell_behind, cell_at, content_behind, content_at, create_at, delete_at, owner_at, put_at, removal_at, wiped_key_at, told_at, effect_behind, effect_at, holder_at, words_behind, words_at, indexes_behind, indexes_at, reply_behind, reply_at, alive_at, close_at, command_at, body_behind, body_at, entry_at, Spells, Spoils, spelling}

-- a command of session 1 puts the word a at the key k of a map
abbrev third : Entry
third = record { time = 2; body = bodies.Command 1 2 (effects.Put 2 (cells.Named (107 ∷ [])) (contents.Text (97 ∷ [])) None) replies.None }

abbrev third_bytes : List ℕ
third_bytes = 0 ∷ 0 ∷ 0 ∷ 0 ∷ 0 ∷ 0 ∷ 0 ∷ 3 ∷ 0 ∷ 0 ∷ 0 ∷ 0 ∷ 0 ∷ 0 ∷ 0 ∷ 2 ∷ 5 ∷ 0 ∷ 0 ∷ 0 ∷ 0 ∷ 0 ∷ 0 ∷ 0 ∷ 1 ∷ 0 ∷ 0 ∷ 0 ∷ 0 ∷ 0 ∷ 0 ∷ 0 ∷ 2 ∷ 3 ∷ 0 ∷ 0 ∷ 0 ∷ 0 ∷ 0 ∷ 0 ∷ 0 ∷ 2 ∷ 1 ∷ 0 ∷ 1 ∷ 107 ∷ 1 ∷ 0 ∷ 1 ∷ 97 ∷ 0 ∷ 0 ∷ 0 ∷ 0 ∷ 0 ∷ 0 ∷ 0 ∷ 0 ∷ 0 ∷ []

third_spelled : spelled 3 third ≡ third_bytes
unfolding number_spelled text_spelled cell_spelled content_spelled effect_spelled reply_spelled body_spelled spelled
third_spelled = refl

third_read : spelling (third_bytes ++ 255 ∷ []) ≡ Spells 3 third 59
unfolding byte_at number_at bounded_at flag_at kind_at length_at whole_at piece_at text_at pair_at waiter_at cell_behind cell_at content_behind content_at create_at delete_at owner_at put_at removal_at wiped_key_at told_at effect_behind effect_at signed_at count_at holder_at words_behind words_at indexes_behind indexes_at reply_behind reply_at alive_at close_at command_at body_behind body_at entry_at spelling
third_read = refl

third_short : spelling (take 58 third_bytes) ≡ Spoils 58
unfolding byte_at number_at bounded_at flag_at kind_at length_at whole_at piece_at text_at pair_at waiter_at cell_behind cell_at content_behind content_at create_at delete_at owner_at put_at removal_at wiped_key_at told_at effect_behind effect_at signed_at count_at holder_at words_behind words_at indexes_behind indexes_at reply_behind reply_at alive_at close_at command_at body_behind body_at entry_at spelling
third_short = refl

third_wrong : spelling (take 16 third_bytes ++ 9 ∷ drop 17 third_bytes) ≡ Spoils 16
unfolding byte_at number_at bounded_at flag_at kind_at length_at whole_at piece_at text_at pair_at waiter_at cell_behind cell_at content_behind content_at create_at delete_at owner_at put_at removal_at wiped_key_at told_at effect_behind effect_at signed_at count_at holder_at words_behind words_at indexes_behind indexes_at reply_behind reply_at alive_at close_at command_at body_behind body_at entry_at spelling
third_wrong = refl

-- the byte of the word is a blank
third_hidden : spelling (take 49 third_bytes ++ 32 ∷ drop 50 third_bytes) ≡ Spoils 49
unfolding byte_at number_at bounded_at flag_at kind_at length_at whole_at piece_at text_at pair_at waiter_at cell_behind cell_at content_behind content_at create_at delete_at owner_at put_at removal_at wiped_key_at told_at effect_behind effect_at signed_at count_at holder_at words_behind words_at indexes_behind indexes_at reply_behind reply_at alive_at close_at command_at body_behind body_at entry_at spelling
third_hidden = refl

greatest_index : number_spelled 281474976710655 ≡ 0 ∷ 0 ∷ 255 ∷ 255 ∷ 255 ∷ 255 ∷ 255 ∷ 255 ∷ []
unfolding number_spelled
greatest_index = refl
