-- What lexis's contracts say: texts.
pub mod Text
