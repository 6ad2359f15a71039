-- The worked examples of FIPS 197, computed from the definitions.
use Rattle.std.proofs.Common.{refl}
use Rattle.aes.specs.Field.{xtimes, times_bits, times, squares, inverse}
use Rattle.aes.specs.SBox.{rotated, affine, inv_affine, s_box, inv_s_box}
use Rattle.aes.specs.State.{byte_at, state_of, columns, xor_bytes}
use Rattle.aes.specs.Rounds.{sub_bytes, shift_rows, mix_byte, mix_columns, add_round_key, round_key, cipher_round, cipher_rounds, cipher}
use Rattle.aes.specs.Inverse.{inv_sub_bytes, inv_shift_rows, inv_mix_byte, inv_mix_columns, inv_cipher_round, inv_cipher_rounds, inv_cipher}
use Rattle.aes.specs.KeyExpansion.{rot_word, sub_word, x_power, rcon, word_at, addend, next_word, with_next, expanded, key_expansion}
use Rattle.aes.specs.Examples.{AppendixB, AppendixC1, WorkedExamples}

appendix_b_lem : AppendixB
unfolding xtimes times_bits times squares inverse rotated affine inv_affine s_box inv_s_box byte_at state_of columns xor_bytes sub_bytes shift_rows mix_byte mix_columns add_round_key round_key cipher_round cipher_rounds cipher inv_sub_bytes inv_shift_rows inv_mix_byte inv_mix_columns inv_cipher_round inv_cipher_rounds inv_cipher rot_word sub_word x_power rcon word_at addend next_word with_next expanded key_expansion
appendix_b_lem = (refl, refl)

appendix_c1_lem : AppendixC1
unfolding xtimes times_bits times squares inverse rotated affine inv_affine s_box inv_s_box byte_at state_of columns xor_bytes sub_bytes shift_rows mix_byte mix_columns add_round_key round_key cipher_round cipher_rounds cipher inv_sub_bytes inv_shift_rows inv_mix_byte inv_mix_columns inv_cipher_round inv_cipher_rounds inv_cipher rot_word sub_word x_power rcon word_at addend next_word with_next expanded key_expansion
appendix_c1_lem = (refl, refl)

pub worked_examples : WorkedExamples
unfolding xtimes times_bits times squares inverse rotated affine s_box
worked_examples = record { product = refl; box = refl; appendix_b = appendix_b_lem; appendix_c1 = appendix_c1_lem }
