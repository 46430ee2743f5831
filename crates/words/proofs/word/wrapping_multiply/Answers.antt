-- `wrapping_multiply` meets its contract: the whole product fits 64 bits, by the law at 32, and its remainder is the definition's.
use Rattle.std.proofs.Common.{rules}
use Rattle.words.proofs.Products.{product_has_twice_the_bits}
use Rattle.words.proofs.word.wrapping_multiply.Goals as goal

pub overflow_mul-product : goal.overflow_mul-product
overflow_mul-product c = record { fits = product_has_twice_the_bits 32 (search rules) (search rules) }
