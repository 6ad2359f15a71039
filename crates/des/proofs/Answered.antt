-- The known answers, evaluated by antt.
use Rattle.std.proofs.Common.{refl}
use Rattle.des.specs.Bits.{bit, number, groups, permuted}
use Rattle.des.specs.Cipher.{IP, IP⁻¹, E, P, S, f, halves, preoutput, round, round_key, forwards, backwards, crypted, enciphered, deciphered}
use Rattle.des.specs.Schedule.{PC_1, PC_2, left_shift, shifted, C, D, KS, key_schedule}
use Rattle.des.specs.Tables.{IP_table, IP⁻¹_table, E_table, P_table, PC_1_table, PC_2_table, left_shifts, S_tables}
use Rattle.des.specs.Vectors.{KnownAnswers}

pub known : KnownAnswers
unfolding bit number groups permuted IP IP⁻¹ E P S f halves preoutput round round_key forwards backwards crypted enciphered deciphered PC_1 PC_2 left_shift shifted C D KS key_schedule IP_table IP⁻¹_table E_table P_table PC_1_table PC_2_table left_shifts S_tables
known = ((refl, refl), (refl, refl), (refl, refl), (refl, refl), (refl, refl))
