-- AES-128 and DES under a word's schedule are lawful ciphers.
use Rattle.aes.proofs.KeyWords.{key_expansion_bytes, inverts}
use Rattle.aes.specs.Inverse.{inv_cipher}
use Rattle.aes.specs.KeyExpansion.{key_expansion}
use Rattle.aes.specs.Rounds.{cipher}
use Rattle.cipher.specs.Laws.{CipherLaws}
use Rattle.des.proofs.Inverts.{inverse}
use Rattle.des.proofs.Keys.{key_schedule_bytes}
use Rattle.des.specs.Cipher.{enciphered, deciphered}
use Rattle.des.specs.Schedule.{key_schedule}
use Rattle.profile.specs.Keys.{des_key}
use Rattle.profile.specs.WordKeys.{word_block}
use Rattle.word.specs.Words.{word_bytes}

-- AES-128 keyed by a word
pub aes_laws : CipherLaws 16 176 (λ w. key_expansion (word_bytes w)) (λ w b. cipher (key_expansion (word_bytes w)) b) (λ w b. inv_cipher (key_expansion (word_bytes w)) b)
aes_laws = record {
  schedule_long = λ w. (key_expansion_bytes (word_bytes w) (word_block w)).0;
  E_block = λ w b h. (inverts (word_bytes w) b (word_block w) h).cipher_bytes;
  D_block = λ w b h. (inverts (word_bytes w) b (word_block w) h).inv_cipher_bytes;
  D_E = λ w b h. (inverts (word_bytes w) b (word_block w) h).inv_cipher_of_cipher;
  E_D = λ w b h. (inverts (word_bytes w) b (word_block w) h).cipher_of_inv_cipher;
}

-- DES keyed by the first eight bytes of a word
pub des_laws : CipherLaws 8 128 (λ w. key_schedule (des_key w)) (λ w b. enciphered (key_schedule (des_key w)) b) (λ w b. deciphered (key_schedule (des_key w)) b)
des_laws = record {
  schedule_long = λ w. (key_schedule_bytes (des_key w)).0;
  E_block = λ w b h. (inverse (key_schedule (des_key w)) b h).enciphered_bytes;
  D_block = λ w b h. (inverse (key_schedule (des_key w)) b h).deciphered_bytes;
  D_E = λ w b h. (inverse (key_schedule (des_key w)) b h).deciphers;
  E_D = λ w b h. (inverse (key_schedule (des_key w)) b h).enciphers;
}
